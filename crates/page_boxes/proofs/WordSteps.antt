-- No word is longer than its text.
use Rattle.std.proofs.Common.{◌≡◌, ℕ, zero, suc, ◌<◌, ◌≤◌, Bool, true, false, List, [], ◌∷◌, cond, get_or, length, map, sym, subst, arith}
use Rattle.std.specs.List.{AllByRecursion, slice_split, onto_first}
use denote.Ref.{Bor}

more : (n : ℕ) (ws : List (List ℕ)) → AllByRecursion (λ w. length w ≤ n) ws → AllByRecursion (λ w. length w ≤ suc n) ws
more n [] a = tt
more n (w ∷ ws) a = ((let l = a.0 in omega arith), more n ws a.1)

parts-short : (p : ℕ → Bool) (cs : List ℕ) → AllByRecursion (λ w. length w ≤ length cs) (slice_split p cs)
parts-short p [] = (omega arith, tt)
parts-short p (c ∷ cs) = by (p c) (slice_split p cs) (parts-short p cs)
  where
    by : (b : Bool) (ws : List (List ℕ)) → AllByRecursion (λ w. length w ≤ length cs) ws → AllByRecursion (λ w. length w ≤ suc (length cs)) (cond b ([] ∷ ws) (onto_first c ws))
    by true ws a = (omega arith, more (length cs) ws a)
    by false [] a = (omega arith, tt)
    by false (w ∷ ws) a = ((let l = a.0 in omega arith), more (length cs) ws a.1)

at-place : (P : List ℕ → Type 0) (parts : List (Bor (List ℕ))) (k : ℕ) (d : Bor (List ℕ)) → AllByRecursion P (map (λ part. part.now) parts) → k < length parts → P (get_or parts k d).now
at-place P [] k d a l = absurd (omega (arith, l))
at-place P (x ∷ xs) zero d a l = a.0
at-place P (x ∷ xs) (suc k) d a l = at-place P xs k d a.1 (omega (arith, l))

pub part-short : (p : ℕ → Bool) (cs : List ℕ) (parts : List (Bor (List ℕ))) (k : ℕ) (d : Bor (List ℕ)) → map (λ part. part.now) parts ≡ slice_split p cs → k < length parts → length (get_or parts k d).now ≤ length cs
part-short p cs parts k d e l = at-place (λ w. length w ≤ length cs) parts k d (subst (AllByRecursion (λ w. length w ≤ length cs)) (sym e) (parts-short p cs)) l
