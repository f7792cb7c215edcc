-- The segment that floats leave of a containing block (CSS 2.1, 9.5), as relations.
use Rattle.std.specs.Prelude.{◌≡◌, ℤ, ◌+ℤ◌, ◌≤ℤ◌, ◌<ℤ◌, ◌⊎◌, false, List, IsTrue, Contains}
use Rattle.viz_base.specs.declared.layouts.Band.{Band}
use Rattle.layout_semantics.specs.Floats.{FloatBox, is_left}

-- a float that has a height and meets the span of height h from y on
pub record MeetsSpan (y h : ℤ) (f : FloatBox) : Type 0 where
  pub has_height : f.box.top <ℤ f.box.bottom
  pub begins_before : f.box.top <ℤ (y +ℤ h)
  pub ends_after : y <ℤ f.box.bottom

-- what the floats that meet the span leave: each of them ends before the band or begins after
-- it, and each edge of the band is the containing block's or such a float's
pub record IsLeftOver (floats : List FloatBox) (cb : Band ℤ) (y h : ℤ) (band : Band ℤ) : Type 0 where
  pub after_left_ones : (f : FloatBox) → Contains floats f → IsTrue (is_left f) → MeetsSpan y h f
      → f.box.right ≤ℤ band.left
  pub before_right_ones : (f : FloatBox) → Contains floats f → is_left f ≡ false → MeetsSpan y h f
      → band.right ≤ℤ f.box.left
  pub within_left : cb.left ≤ℤ band.left
  pub within_right : band.right ≤ℤ cb.right
  pub left_edge : (band.left ≡ cb.left)
      ⊎ ((f : FloatBox) × Contains floats f × IsTrue (is_left f) × MeetsSpan y h f × (f.box.right ≡ band.left))
  pub right_edge : (band.right ≡ cb.right)
      ⊎ ((f : FloatBox) × Contains floats f × (is_left f ≡ false) × MeetsSpan y h f × (f.box.left ≡ band.right))
