-- Two tops that are brought together: one at which a float has no place, and a lower one at which it has.
use Rattle.std.specs.Prelude.{◌≡◌, ℤ, ◌≤ℤ◌, ◌<ℤ◌, Bool, true, false, int_le, cond, List, [], ◌∷◌, map, Contains, Option, Some, None}
use Rattle.viz_base.specs.declared.layouts.Band.{Band}
use Rattle.viz_base.specs.declared.styles.Side.{Side}
use Rattle.layout_semantics.specs.Floats.{FloatBox}
use Rattle.lay_float.specs.steps.Shelves.{Place, shelf_on, is_free, stand, place_on}

pub record Bracket : Type 0 where
  -- a top at which there is no place, nor above it
  pub taken : ℤ
  -- a place below that top, the highest that was found
  pub found : Option Place

abbrev pub is_passed : Option Place → ℤ → Bool
is_passed None bottom = false
is_passed (Some p) bottom = int_le p.top bottom

-- whether a bottom is not between the two tops
abbrev pub is_settled : Bracket → ℤ → Bool
is_settled b bottom = cond (int_le bottom b.taken) true (is_passed b.found bottom)

-- a closer one, by a bottom between the two
abbrev pub tried : List FloatBox → Side → ℤ → Band ℤ → Bracket → ℤ → Bracket
tried fs side width cb b bottom = by (stand fs side width cb bottom)
  where
    by : Option ℤ → Bracket
    by (Some edge) = record { taken = b.taken; found = Some (record { top = bottom; edge = edge }) }
    by None = record { taken = bottom; found = b.found }

-- by the bottom of a float, if that is between the two
unfoldable pub visited : List FloatBox → Side → ℤ → Band ℤ → Bracket → FloatBox → Bracket
visited fs side width cb b f = cond (is_settled b f.box.bottom) b (tried fs side width cb b f.box.bottom)

-- by the bottoms of these
unfoldable pub visited_all : List FloatBox → Side → ℤ → Band ℤ → List FloatBox → Bracket → Bracket
visited_all fs side width cb [] b = b
visited_all fs side width cb (f ∷ gs) b = visited_all fs side width cb gs (visited fs side width cb b f)

-- a place that was found below a top: at a float's bottom, and free
pub record IsPlaceBelow (fs : List FloatBox) (side : Side) (width : ℤ) (cb : Band ℤ) (taken : ℤ) (p : Place)
    : Type 0 where
  pub below : taken <ℤ p.top
  pub bottom : Contains (map (λ (f : FloatBox). f.box.bottom) fs) p.top
  pub stands : p ≡ place_on fs side cb p.top
  pub free : is_free side width cb (shelf_on fs side cb p.top) ≡ true

-- a bracket of the tops from the highest one down
pub record IsBracket (fs : List FloatBox) (side : Side) (width : ℤ) (cb : Band ℤ) (high : ℤ) (b : Bracket)
    : Type 0 where
  pub low : high ≤ℤ b.taken
  pub full : is_free side width cb (shelf_on fs side cb b.taken) ≡ false
  pub place : (p : Place) → b.found ≡ Some p → IsPlaceBelow fs side width cb b.taken p
