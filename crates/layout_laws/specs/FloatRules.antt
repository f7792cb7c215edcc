-- The rules for the place of a float (CSS 2.1, 9.5.1), as relations.
use Rattle.std.specs.Prelude.{◌≡◌, ℤ, ◌+ℤ◌, ◌≤ℤ◌, ◌<ℤ◌, false, List, IsTrue, Contains}
use Rattle.viz_base.specs.declared.layouts.Band.{Band}
use Rattle.viz_base.specs.declared.layouts.Spot.{Spot}
use Rattle.viz_base.specs.declared.styles.Side.{Side}
use Rattle.viz_base.specs.declared.styles.Side.TheVariants as of_side
use Rattle.layout_semantics.specs.Floats.{FloatBox, is_left}

-- a float whose top is at y is next to an earlier one where y is at least
-- its top and above its bottom (our own reading)
pub record IsNextTo (y : ℤ) (f : FloatBox) : Type 0 where
  pub from : f.box.top ≤ℤ y
  pub to : y <ℤ f.box.bottom

-- rules 4 to 6: not above `top`, nor above an earlier float's top
pub record IsLowEnough (floats : List FloatBox) (top : ℤ) (at : Spot ℤ) : Type 0 where
  pub below_top : top ≤ℤ at.y
  pub below_floats : (f : FloatBox) → Contains floats f → f.box.top ≤ℤ at.y

-- a left float as wide as that:
pub record LeftObeys (floats : List FloatBox) (width : ℤ) (cb : Band ℤ) (top : ℤ) (at : Spot ℤ) : Type 0 where
  pub low_enough : IsLowEnough floats top at
  -- rule 1: not to the left of its containing block
  pub inside : cb.left ≤ℤ at.x
  -- rule 2: to the right of each earlier left float, or below its bottom
  pub right_of_left_ones : (f : FloatBox) → Contains floats f → IsTrue (is_left f) → IsNextTo at.y f
      → f.box.right ≤ℤ at.x
  -- rule 3: not reaching over the left edge of a right float next to it
  pub left_of_right_ones : (f : FloatBox) → Contains floats f → is_left f ≡ false → IsNextTo at.y f
      → (at.x +ℤ width) ≤ℤ f.box.left
  -- rule 7: not sticking out on the right with a left float on its left
  pub not_sticking_out : (f : FloatBox) → Contains floats f
      → IsTrue (is_left f) → IsNextTo at.y f → (at.x +ℤ width) ≤ℤ cb.right

-- a right float, the other way round
pub record RightObeys (floats : List FloatBox) (width : ℤ) (cb : Band ℤ) (top : ℤ) (at : Spot ℤ) : Type 0 where
  pub low_enough : IsLowEnough floats top at
  pub inside : (at.x +ℤ width) ≤ℤ cb.right
  pub left_of_right_ones : (f : FloatBox) → Contains floats f → is_left f ≡ false → IsNextTo at.y f
      → (at.x +ℤ width) ≤ℤ f.box.left
  pub right_of_left_ones : (f : FloatBox) → Contains floats f → IsTrue (is_left f) → IsNextTo at.y f
      → f.box.right ≤ℤ at.x
  pub not_sticking_out : (f : FloatBox) → Contains floats f → is_left f ≡ false → IsNextTo at.y f → cb.left ≤ℤ at.x

abbrev pub ObeysRules : List FloatBox → Side → ℤ → Band ℤ → ℤ → Spot ℤ → Type 0
ObeysRules floats of_side.Left width cb top at = LeftObeys floats width cb top at
ObeysRules floats of_side.Right width cb top at = RightObeys floats width cb top at

-- a place that is not farther to the float's side than another
abbrev pub IsNoFarther : Side → Spot ℤ → Spot ℤ → Type 0
IsNoFarther of_side.Left at other = other.x ≤ℤ at.x
IsNoFarther of_side.Right at other = at.x ≤ℤ other.x
