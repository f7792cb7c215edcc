-- Numbers one after another have the greatest of their list.
use Rattle.std.proofs.Common.{◌≡◌, ℤ, List, [], ◌∷◌, ◌++◌, Option, Some, None, refl, ap, ◌∙◌, arith}
use Rattle.std.specs.Int.{int_max}
use Rattle.std.proofs.lemmas.Int.{ints, clamps}
use Rattle.layout_semantics.specs.Extremes.{greatest_from}
use Rattle.layout_semantics.specs.Preferred.{greatest}
use Rattle.lay_preferred.specs.steps.Extremes.{larger, or_zero, most_of}

pub larger-then : (best : Option ℤ) (x y : ℤ) → int_max (larger best x) y ≡ larger best (int_max x y)
larger-then None x y = refl
larger-then (Some best) x y = omega (arith, ints, clamps)

turned : (a x : ℤ) (xs : List ℤ) → greatest_from (int_max a x) xs ≡ int_max x (greatest_from a xs)
turned a x [] = omega (arith, ints, clamps)
turned a x (y ∷ ys) = let rest = turned a x ys in omega (arith, ints, clamps)

most-some : (a : ℤ) (xs : List ℤ) → most_of (Some a) xs ≡ Some (greatest_from a xs)
most-some a [] = refl
most-some a (x ∷ xs) = most-some (int_max a x) xs ∙ ap Some (turned a x xs)

pub greatest-same : (xs : List ℤ) → or_zero (most_of None xs) ≡ greatest xs
greatest-same [] = refl
greatest-same (x ∷ xs) = ap or_zero (most-some x xs)

pub most-append : (best : Option ℤ) (xs ys : List ℤ) → most_of best (xs ++ ys) ≡ most_of (most_of best xs) ys
most-append best [] ys = refl
most-append best (x ∷ xs) ys = most-append (Some (larger best x)) xs ys
