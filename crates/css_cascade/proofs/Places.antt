-- Places of a list with one more item at its end.
use Rattle.std.proofs.Common.{◌≡◌, ℕ, ◌<◌, ◌≤◌, List, [], ◌∷◌, ◌++◌, length, slice_get, Some, refl, sym, ap, ◌∙◌, arith, length-append, inl, inr, ◌⊎◌}
use Rattle.std.proofs.lemmas.Bool.{cases_lt}
use Rattle.std.proofs.lemmas.Option.{same_Some, slice_get_within}
use Rattle.viz_base.proofs.ListLemmas.{get_before}
use Rattle.viz_base.proofs.ListLemmas.{get_last}

-- what stands at a place of the longer list
pub at_or_last : {A : Type 0} (xs : List A) (x y : A) (n i : ℕ) → length xs ≡ n → slice_get (xs ++ x ∷ []) i ≡ Some y → ((i < n) × (slice_get xs i ≡ Some y)) ⊎ ((i ≡ n) × (x ≡ y))
at_or_last xs x y n i e at =
    let within = slice_get_within (xs ++ x ∷ []) i y at in
    by_place (cases_lt i n) within
  where
    by_place : (i < n) ⊎ (n ≤ i) → i < length (xs ++ x ∷ []) → ((i < n) × (slice_get xs i ≡ Some y)) ⊎ ((i ≡ n) × (x ≡ y))
    by_place (inl l) within = inl (l, sym (get_before xs (x ∷ []) i (omega (arith, l, e))) ∙ at)
    by_place (inr g) within =
        let is : i ≡ n = omega (arith, g, within, e, length-append xs (x ∷ [])) in
        inr (is, same_Some x y (sym (get_last xs x) ∙ ap (slice_get (xs ++ x ∷ [])) (e ∙ sym is) ∙ at))
