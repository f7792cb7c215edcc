-- How large numbers may be that are handed in.
use Rattle.std.specs.Prelude.{ℤ, ◌≤◌, ◌^◌, unsigned_abs, List, [], ◌∷◌, Contains}
use Rattle.layout_semantics.specs.Floats.{FloatBox}

-- half the size that a number may have
abbrev pub IsHalf : ℤ → Type 0
IsHalf z = unsigned_abs z ≤ 2 ^ 99

abbrev pub AllHalf : List ℤ → Type 0
AllHalf [] = Unit {0}
AllHalf (z ∷ zs) = IsHalf z × AllHalf zs

-- the edges of these floats, and these numbers, are at most 2^99 in size
pub record AreHalf (floats : List FloatBox) (others : List ℤ) : Type 0 where
  pub edges : (f : FloatBox) → Contains floats f → AllHalf (f.box.left ∷ f.box.top ∷ f.box.right ∷ f.box.bottom ∷ [])
  pub numbers : AllHalf others
