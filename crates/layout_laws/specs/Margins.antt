use Rattle.std.specs.Prelude.{◌≡◌, ℤ, pos, ◌≤ℤ◌, ◌⊎◌, List, Contains}

-- the greatest positive member of a list, 0 where there is none
pub record IsGreatestPositive (xs : List ℤ) (m : ℤ) : Type 0 where
  pub not_negative : pos 0 ≤ℤ m
  pub bound : (x : ℤ) → Contains xs x → x ≤ℤ m
  pub reached : (m ≡ pos 0) ⊎ Contains xs m

-- the least negative member, the one greatest in absolute value, 0 where there is none
pub record IsLeastNegative (xs : List ℤ) (m : ℤ) : Type 0 where
  pub not_positive : m ≤ℤ pos 0
  pub bound : (x : ℤ) → Contains xs x → m ≤ℤ x
  pub reached : (m ≡ pos 0) ⊎ Contains xs m
