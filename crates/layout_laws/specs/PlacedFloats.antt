-- The floats of a block formatting context, in the order in which they are placed (CSS 2.1, 9.5.1).
use Rattle.std.specs.Prelude.{◌≡◌, ℕ, ◌<◌, ℤ, ◌≤ℤ◌, ◌⊎◌, List, [], ◌∷◌, ◌++◌, slice_get, Some}
use Rattle.viz_base.specs.declared.layouts.Band.{Band}
use Rattle.viz_base.specs.declared.layouts.Extent.{Extent}
use Rattle.viz_base.specs.declared.styles.Side.{Side}
use Rattle.layout_semantics.specs.Floats.{FloatBox, placed_float, float_at}

-- floats that are placed after others, each where the rules put it among all those before it
pub data ArePlacedAfter (before : List FloatBox) : List FloatBox → Type 0 where
  none : ArePlacedAfter before before
  next : (floats : List FloatBox) (side : Side) (size : Extent ℤ) (cb : Band ℤ) (top : ℤ) → ArePlacedAfter before floats
      → ArePlacedAfter before (floats ++ placed_float side size (float_at floats side size cb top) ∷ [])

-- a float lies below an earlier one, to the right of it, or to the left of
-- it; and its top is not above that one's (rule 5)
pub record IsClearOf (later earlier : FloatBox) : Type 0 where
  pub apart : (earlier.box.bottom ≤ℤ later.box.top)
      ⊎ ((earlier.box.right ≤ℤ later.box.left) ⊎ (later.box.right ≤ℤ earlier.box.left))
  pub not_above : earlier.box.top ≤ℤ later.box.top

-- each float of a list is clear of all those before it
abbrev pub AreClear : List FloatBox → Type 0
AreClear floats = (i j : ℕ) (f g : FloatBox) → i < j → slice_get floats i ≡ Some f → slice_get floats j ≡ Some g
    → IsClearOf g f
