use Rattle.std.specs.Prelude.{◌≡◌, ℤ, pos, ◌+ℤ◌, ◌≤ℤ◌, ◌⊎◌, Contains}
use Rattle.layout_semantics.specs.Floats.{FloatBox}
use Rattle.layout_semantics.specs.Flow.{Progress, next_edge}

-- the height of a context whose content begins at `top` and ends so (CSS 2.1, 10.6.7): down to the bottom of its
-- content, with the margins that end it, and to the bottom of each of its floats, and no further; at least 0
pub record ReachesDown (top : ℤ) (end : Progress) (h : ℤ) : Type 0 where
  pub not_negative : pos 0 ≤ℤ h
  pub content : next_edge end.standing ≤ℤ (top +ℤ h)
  pub floats : (f : FloatBox) → Contains end.floats f → f.box.bottom ≤ℤ (top +ℤ h)
  pub no_further : (h ≡ pos 0)
      ⊎ ((next_edge end.standing ≡ top +ℤ h) ⊎ ((f : FloatBox) × Contains end.floats f × (f.box.bottom ≡ top +ℤ h)))
