-- The greatest of numbers, one after another.
use Rattle.std.specs.Prelude.{ℤ, pos, List, [], ◌∷◌, Option, Some, None, unwrap_or}
use Rattle.std.specs.Int.{int_max}

abbrev pub larger : Option ℤ → ℤ → ℤ
larger None x = x
larger (Some best) x = int_max best x

abbrev pub or_zero : Option ℤ → ℤ
or_zero best = unwrap_or best (pos 0)

abbrev pub most_of : Option ℤ → List ℤ → Option ℤ
most_of best [] = best
most_of best (x ∷ xs) = most_of (Some (larger best x)) xs
