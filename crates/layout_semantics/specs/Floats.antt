use Rattle.std.specs.Prelude.{ℤ, ◌+ℤ◌, ◌-ℤ◌, Bool, true, false, not, cond, ◌&&◌, ◌||◌, int_le, int_lt, ℕ, List, [], ◌∷◌, ◌++◌, map, filter, Option, Some, None, unwrap_or}
use Rattle.std.specs.List.{list_all}
use Rattle.std.specs.Option.{option_to_list}
use Rattle.viz_base.specs.declared.layouts.Band.{Band}
use Rattle.viz_base.specs.declared.layouts.Extent.{Extent}
use Rattle.viz_base.specs.declared.layouts.Spot.{Spot}
use Rattle.viz_base.specs.declared.renderings.Quad.{Quad}
use Rattle.viz_base.specs.declared.styles.Clear.{Clear}
use Rattle.viz_base.specs.declared.styles.Clear.TheVariants as of_clear
use Rattle.viz_base.specs.declared.styles.Side.{Side}
use Rattle.viz_base.specs.declared.styles.Side.TheVariants as of_side
use Rattle.viz_base.specs.declared.styles.Style.{Style}
use Rattle.viz_base.specs.declared.trees.BoxTree.{BoxTree}
use Rattle.layout_semantics.specs.Extremes.{greatest_from, least_from}
use Rattle.layout_semantics.specs.Lengths.{own}

-- a float of a block formatting context: its side, and its outer box, which goes to its margin edges (CSS 2.1, 9.5)
pub record FloatBox : Type 0 where
  pub side : Side
  pub box : Quad ℤ

abbrev pub placed_float : Side → Extent ℤ → Spot ℤ → FloatBox
placed_float side size at =
    record {
      side = side;
      box =
          record { left = at.x; top = at.y; right = at.x +ℤ size.width; bottom = at.y +ℤ size.height };
    }

abbrev pub is_left : FloatBox → Bool
is_left f = by_side f.side
  where
    by_side : Side → Bool
    by_side of_side.Left = true
    by_side of_side.Right = false

abbrev pub left_ones : List FloatBox → List FloatBox
left_ones floats = filter is_left floats

abbrev pub right_ones : List FloatBox → List FloatBox
right_ones floats = filter (λ f. not (is_left f)) floats

-- the segment of a containing block that floats leave: right of each left one and left of each right one
abbrev pub beside : List FloatBox → Band ℤ → Band ℤ
beside floats cb =
    record {
      left = greatest_from cb.left (map (λ (f : FloatBox). f.box.right) (left_ones floats));
      right = least_from cb.right (map (λ (f : FloatBox). f.box.left) (right_ones floats));
    }

-- ---- the places that a float may have (CSS 2.1, 9.5.1)

-- a float whose top is at y is next to an earlier one where y is at least the earlier one's top and above its bottom
-- (our own reading of "next to"); one that has no height is next to nothing
abbrev pub is_next_to : ℤ → FloatBox → Bool
is_next_to y f = int_le f.box.top y && int_lt y f.box.bottom

-- a left float beside a float that it is next to: to the right of a left one, and then not sticking out of the
-- containing block on the right; not reaching over the left edge of a right one (rules 2, 7 and 3)
abbrev pub left_fits_beside : Band ℤ → ℤ → ℤ → FloatBox → Bool
left_fits_beside cb left right f =
    cond (is_left f) (int_le f.box.right left && int_le right cb.right) (int_le right f.box.left)

-- the same of a right float
abbrev pub right_fits_beside : Band ℤ → ℤ → ℤ → FloatBox → Bool
right_fits_beside cb left right f =
    cond (is_left f) (int_le f.box.right left) (int_le right f.box.left && int_le cb.left left)

abbrev pub fits_beside : Side → Band ℤ → ℤ → ℤ → FloatBox → Bool
fits_beside of_side.Left cb left right f = left_fits_beside cb left right f
fits_beside of_side.Right cb left right f = right_fits_beside cb left right f

-- within its own edge of the containing block (rule 1)
abbrev pub is_inside : Side → Band ℤ → ℤ → ℤ → Bool
is_inside of_side.Left cb left right = int_le cb.left left
is_inside of_side.Right cb left right = int_le right cb.right

-- a place is allowed where it is not above `top` nor above an earlier float's top (rules 4 to 6),
-- is inside the containing block's edge, and beside each earlier float that it is next to
abbrev pub is_allowed : List FloatBox → Side → ℤ → Band ℤ → ℤ → Spot ℤ → Bool
is_allowed floats side width cb top at =
    int_le top at.y
    && list_all (λ (f : FloatBox). int_le f.box.top at.y) floats
    && is_inside side cb at.x (at.x +ℤ width)
    && list_all (λ f. not (is_next_to at.y f) || fits_beside side cb at.x (at.x +ℤ width) f) floats

-- ---- the place that it has: as high as possible, and then as far to its side as possible (rules 8 and 9)

-- the place farthest to its side with its top at y
abbrev pub farthest_at : List FloatBox → Side → ℤ → Band ℤ → ℤ → Spot ℤ
farthest_at floats side width cb y = by_side side (beside (filter (is_next_to y) floats) cb)
  where
    by_side : Side → Band ℤ → Spot ℤ
    by_side of_side.Left room = record { x = room.left; y = y }
    by_side of_side.Right room = record { x = room.right -ℤ width; y = y }

-- the highest top that the order of floats allows (rules 4 to 6)
abbrev pub highest_top : List FloatBox → ℤ → ℤ
highest_top floats top = greatest_from top (map (λ (f : FloatBox). f.box.top) floats)

-- only below a float's bottom is there more room, so a float is at the highest top or at such a bottom
abbrev pub candidate_tops : List FloatBox → ℤ → List ℤ
candidate_tops floats high = high ∷ filter (int_lt high) (map (λ (f : FloatBox). f.box.bottom) floats)

-- below all floats every place is free
abbrev pub below_all : List FloatBox → ℤ → ℤ
below_all floats high = greatest_from high (map (λ (f : FloatBox). f.box.bottom) floats)

-- the highest of these tops at which the place farthest to its side is allowed
abbrev pub highest_free : List FloatBox → Side → ℤ → Band ℤ → ℤ → ℤ → ℤ
highest_free floats side width cb top high =
    least_from (below_all floats high)
    (filter (λ y. is_allowed floats side width cb top (farthest_at floats side width cb y))
    (candidate_tops floats high))

abbrev pub float_at : List FloatBox → Side → Extent ℤ → Band ℤ → ℤ → Spot ℤ
float_at floats side size cb top =
    farthest_at floats side size.width cb (highest_free floats side size.width cb top (highest_top floats top))

-- ---- bands (CSS 2.1, 9.5)

-- the floats that meet the span of height h from y on
abbrev pub meets : ℤ → ℤ → FloatBox → Bool
meets y h f = int_lt f.box.top f.box.bottom && int_lt f.box.top (y +ℤ h) && int_lt y f.box.bottom

-- what they leave of the containing block; it may end before it begins
abbrev pub band_at : List FloatBox → Band ℤ → ℤ → ℤ → Band ℤ
band_at floats cb y h = beside (filter (meets y h) floats) cb

-- ---- what `clear` looks at (CSS 2.1, 9.5.2)

abbrev pub is_relevant : Clear → FloatBox → Bool
is_relevant of_clear.Nothing f = false
is_relevant of_clear.Left f = is_left f
is_relevant of_clear.Right f = not (is_left f)
is_relevant of_clear.Both f = true

-- the lowest outer bottom of the floats that it looks at, where there is one
abbrev pub lowest_bottom : Clear → List FloatBox → Option ℤ
lowest_bottom clear floats = lowest (map (λ (f : FloatBox). f.box.bottom) (filter (is_relevant clear) floats))
  where
    lowest : List ℤ → Option ℤ
    lowest [] = None
    lowest (b ∷ bs) = Some (greatest_from b bs)

-- ---- a float is placed (CSS 2.1, 9.5.1, 9.5.2)

-- a float that comes next: its side, its own `clear`, its outer size and the edges of its containing block
pub record Floating : Type 0 where
  pub side : Side
  pub clear : Clear
  pub size : Extent ℤ
  pub cb : Band ℤ

-- a floated box of a tree, of this outer size and in this containing block
abbrev pub floating : BoxTree → ℕ → Extent ℤ → Band ℤ → Floating
floating tree at size cb = record {
  side = unwrap_or (own tree at (λ (s : Style). s.float) None) of_side.Left;
  clear = own tree at (λ (s : Style). s.clear) of_clear.Nothing;
  size = size;
  cb = cb;
}

-- the highest top that a float with this `clear` may have where it comes at y: not above the outer top of
-- an earlier block or the top of an earlier line of its context (rules 5 and 6), of which `least` is the
-- greatest, nor above the outer bottoms of the earlier floats that its `clear` names
abbrev pub float_top : Clear → List FloatBox → Option ℤ → ℤ → ℤ
float_top clear floats least y = greatest_from y (option_to_list least ++ option_to_list (lowest_bottom clear floats))

abbrev pub float_spot : Floating → List FloatBox → Option ℤ → ℤ → Spot ℤ
float_spot f floats least y = float_at floats f.side f.size f.cb (float_top f.clear floats least y)

-- the floats of the context after it, where it stands at this place
abbrev pub with_float_at : Floating → List FloatBox → Spot ℤ → List FloatBox
with_float_at f floats spot = floats ++ placed_float f.side f.size spot ∷ []

abbrev pub with_float : Floating → List FloatBox → Option ℤ → ℤ → List FloatBox
with_float f floats least y = with_float_at f floats (float_spot f floats least y)
