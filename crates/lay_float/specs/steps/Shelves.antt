-- The place of a float as it is looked for: from the highest top downwards,
-- what the floats that end below a top leave there.
use Rattle.std.specs.Prelude.{ℕ, zero, suc, ℤ, ◌+ℤ◌, ◌-ℤ◌, Bool, true, false, int_le, cond, List, [], ◌∷◌, Option, Some, None, unwrap_or}
use Rattle.std.specs.Int.{int_max, int_min}
use Rattle.viz_base.specs.declared.layouts.Band.{Band}
use Rattle.viz_base.specs.declared.layouts.Spot.{Spot}
use Rattle.viz_base.specs.declared.renderings.Quad.{Quad}
use Rattle.viz_base.specs.declared.styles.Side.{Side}
use Rattle.viz_base.specs.declared.styles.Side.TheVariants as of_side
use Rattle.layout_semantics.specs.Floats.{FloatBox, highest_top}

-- ---- edges that face the content

abbrev pub opposite : Side → Side
opposite of_side.Left = of_side.Right
opposite of_side.Right = of_side.Left

-- of two edges that face the content from this side, the one that leaves less of it
abbrev pub innermost : Side → ℤ → ℤ → ℤ
innermost of_side.Left a b = int_max a b
innermost of_side.Right a b = int_min a b

abbrev pub tighter : Side → ℤ → Option ℤ → Option ℤ
tighter side edge None = Some edge
tighter side edge (Some limit) = Some (innermost side edge limit)

-- the edge of a float's box that faces the content
abbrev pub facing : {N : Type 0} → Side → Quad N → N
facing of_side.Left q = q.right
facing of_side.Right q = q.left

abbrev pub side_edge : {N : Type 0} → Side → Band N → N
side_edge of_side.Left cb = cb.left
side_edge of_side.Right cb = cb.right

abbrev pub is_same_side : Side → Side → Bool
is_same_side of_side.Left of_side.Left = true
is_same_side of_side.Left of_side.Right = false
is_same_side of_side.Right of_side.Left = false
is_same_side of_side.Right of_side.Right = true

-- ---- a shelf: what is left at a top for a float of a side

pub record Shelf : Type 0 where
  -- the edge at which the float would stand
  pub edge : ℤ
  -- the edge that it may not pass because of floats of the other side
  pub limit : Option ℤ
  -- whether it is next to a float of its own side, and so may not pass its containing block's other edge either
  pub is_bounded : Bool

abbrev pub empty_shelf : Side → Band ℤ → Shelf
empty_shelf side cb = record { edge = side_edge side cb; limit = None; is_bounded = false }

-- with one float more on it
abbrev pub set_beside : Side → Shelf → FloatBox → Shelf
set_beside side s f = by (is_same_side f.side side)
  where
    by : Bool → Shelf
    by true = record { edge = innermost side (facing f.side f.box) s.edge; limit = s.limit; is_bounded = true }
    by false = record { edge = s.edge; limit = tighter f.side (facing f.side f.box) s.limit; is_bounded = s.is_bounded }

-- with one float more, where that ends below the top
unfoldable pub with_float : Side → ℤ → Shelf → FloatBox → Shelf
with_float side y s f = cond (int_le f.box.bottom y) s (set_beside side s f)

unfoldable pub shelf_from : Side → ℤ → List FloatBox → Shelf → Shelf
shelf_from side y [] s = s
shelf_from side y (f ∷ fs) s = shelf_from side y fs (with_float side y s f)

-- what a float on a shelf may not pass
abbrev pub limit_of : Side → Band ℤ → Bool → Option ℤ → Option ℤ
limit_of side cb true limit = tighter (opposite side) (side_edge (opposite side) cb) limit
limit_of side cb false limit = limit

-- the other edge of a float that stands at an edge
abbrev pub far_edge : Side → ℤ → ℤ → ℤ
far_edge of_side.Left edge width = edge +ℤ width
far_edge of_side.Right edge width = edge -ℤ width

abbrev pub reaches_to : Side → ℤ → ℤ → Bool
reaches_to of_side.Left x limit = int_le x limit
reaches_to of_side.Right x limit = int_le limit x

abbrev pub stays_within : Side → ℤ → Option ℤ → Bool
stays_within side x None = true
stays_within side x (Some limit) = reaches_to side x limit

-- whether a float of this width stands on a shelf
abbrev pub is_free : Side → ℤ → Band ℤ → Shelf → Bool
is_free side width cb s = stays_within side (far_edge side s.edge width) (limit_of side cb s.is_bounded s.limit)

-- the floats from the first one on that ends below a top
unfoldable pub open_from : ℤ → List FloatBox → List FloatBox
open_from y [] = []
open_from y (f ∷ fs) = cond (int_le f.box.bottom y) (open_from y fs) (f ∷ fs)

-- what a float finds behind others: the highest top that it may have, and the floats that matter from there on
pub record Ahead : Type 0 where
  pub high : ℤ
  pub rest : List FloatBox

abbrev pub ahead_of : List FloatBox → ℤ → Ahead
ahead_of fs top = record { high = highest_top fs top; rest = open_from (highest_top fs top) fs }

-- ---- from one top to the next

-- the highest bottom below a top
unfoldable pub sooner : ℤ → Option ℤ → FloatBox → Option ℤ
sooner y best f = cond (int_le f.box.bottom y) best (tighter of_side.Right f.box.bottom best)

unfoldable pub soonest : ℤ → List FloatBox → Option ℤ → Option ℤ
soonest y [] best = best
soonest y (f ∷ fs) best = soonest y fs (sooner y best f)

abbrev pub next_top : List FloatBox → ℤ → ℤ
next_top fs y = unwrap_or (soonest y fs None) y

abbrev pub shelf_on : List FloatBox → Side → Band ℤ → ℤ → Shelf
shelf_on fs side cb y = shelf_from side y fs (empty_shelf side cb)

-- the edge at which a float stands with its top at a height, where there is place
abbrev pub stand : List FloatBox → Side → ℤ → Band ℤ → ℤ → Option ℤ
stand fs side width cb y = cond (is_free side width cb (shelf_on fs side cb y)) (Some (shelf_on fs side cb y).edge) None

-- the highest top, from this one down, at which there is place; at most so many are passed
unfoldable pub free_top : ℕ → List FloatBox → Side → ℤ → Band ℤ → ℤ → ℤ
free_top zero fs side width cb y = y
free_top (suc n) fs side width cb y =
    cond (is_free side width cb (shelf_on fs side cb y)) y (free_top n fs side width cb (next_top fs y))

-- a top, and the edge at which a float stands there
pub record Place : Type 0 where
  pub top : ℤ
  pub edge : ℤ

abbrev pub place_on : List FloatBox → Side → Band ℤ → ℤ → Place
place_on fs side cb y = record { top = y; edge = (shelf_on fs side cb y).edge }

-- the outer left upper corner of a float of this width that stands at a place
abbrev pub spot_on : Side → ℤ → Place → Spot ℤ
spot_on of_side.Left width place = record { x = place.edge; y = place.top }
spot_on of_side.Right width place = record { x = place.edge -ℤ width; y = place.top }
