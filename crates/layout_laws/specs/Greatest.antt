use Rattle.std.specs.Prelude.{◌≡◌, ℤ, pos, ◌≤ℤ◌, ◌⊎◌, List, [], Contains}
use Rattle.std.specs.List.{AllByRecursion}

-- the greatest of a list: no member is above it, and it is one of them; of no members it is 0
pub record IsGreatestOf (xs : List ℤ) (m : ℤ) : Type 0 where
  pub bound : AllByRecursion (λ x. x ≤ℤ m) xs
  pub reached : ((xs ≡ []) × (m ≡ pos 0)) ⊎ Contains xs m
