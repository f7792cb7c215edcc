use Rattle.std.specs.Prelude.{ℤ, List, [], ◌∷◌}
use Rattle.std.specs.Int.{int_max, int_min}

-- the greatest of a number and of those of a list
abbrev pub greatest_from : ℤ → List ℤ → ℤ
greatest_from a [] = a
greatest_from a (x ∷ xs) = int_max x (greatest_from a xs)

-- the least
abbrev pub least_from : ℤ → List ℤ → ℤ
least_from a [] = a
least_from a (x ∷ xs) = int_min x (least_from a xs)
