-- Sums of the first elements of a list.
use Rattle.std.proofs.Common.{◌≡◌, ℕ, zero, suc, ◌+◌, ◌≤◌, List, [], ◌∷◌, map, sum, Some, slice_get, arith, ap}
use Rattle.std.proofs.lemmas.List.Sums.{sum_by-cons}

module _ {A : Type 0} (f : A → ℕ) where
  abbrev pub first_sum : ℕ → List A → ℕ
  first_sum zero xs = 0
  first_sum (suc n) [] = 0
  first_sum (suc n) (x ∷ xs) = f x + first_sum n xs

  pub first_sum-next : (n : ℕ) (xs : List A) (x : A) → slice_get xs n ≡ Some x → first_sum (suc n) xs ≡ first_sum n xs + f x
  first_sum-next n [] x e = absurd (cc)
  first_sum-next zero (y ∷ ys) x e = let same : y ≡ x = cc in let cost = ap f same in omega (arith, cost)
  first_sum-next (suc n) (y ∷ ys) x e = let rest = first_sum-next n ys x e in omega (arith, rest)

  pub first_sum-rises : (n m : ℕ) (xs : List A) → n ≤ m → first_sum n xs ≤ first_sum m xs
  first_sum-rises zero m xs l = omega arith
  first_sum-rises (suc n) zero xs l = absurd (omega (arith, l))
  first_sum-rises (suc n) (suc m) [] l = omega arith
  first_sum-rises (suc n) (suc m) (x ∷ xs) l = let rest = first_sum-rises n m xs (omega (arith, l)) in omega (arith, rest)

  pub first_sum-all : (n : ℕ) (xs : List A) → first_sum n xs ≤ sum (map f xs)
  first_sum-all zero xs = omega arith
  first_sum-all (suc n) [] = omega arith
  first_sum-all (suc n) (x ∷ xs) = let rest = first_sum-all n xs in let all = sum_by-cons (λ (n : ℕ). n) (f x) (map f xs) in omega (arith, rest, all)
