-- What answers tell of rows that come later is true.
use Rattle.std.proofs.Common.{◌≡◌, ℕ, ℤ, pos, ◌+ℤ◌, Bool, true, false, cond, not, ◌&&◌, List, [], ◌∷◌, ◌++◌, Option, Some, None, refl, sym, ◌∙◌, ap, arith, IsTrue}
use Rattle.std.specs.Int.RustNames.{int_le}
use Rattle.std.specs.Prelude.{Result, Ok, Err, OnOk, OnErr}
use Rattle.std.specs.List.{list_all, list_any, find}
use Rattle.std.specs.Option.{option_map_or}
use Rattle.std.specs.Set.{swap_key}
use Rattle.std.proofs.lemmas.Int.{ints}
use Rattle.std.proofs.lemmas.Bool.{and_parts}
use Rattle.std.proofs.lemmas.List.Folds.{list_all-append}
use Rattle.std.proofs.lemmas.Option.{same_Some}
use Rattle.lin_proof.specs.Form.{Terms, terms_value, value}
use Rattle.sym_calc.specs.declared.told.Alike.{Alike}
use Rattle.sym_calc.specs.declared.told.Told.{Told}
use Rattle.sym_calc.specs.Same.{decides_equal_terms}
use Rattle.sym_calc.specs.Told.{same_terms, is_above, is_below, tells, put, learned, is_met, are_true}

-- ---- rows with the same terms

-- a row that is found has the same terms, and passes what all pass
record IsFound (p : Alike → Bool) (a b : Alike) : Type 0 where
  passes : p b ≡ true
  terms : a.row.terms ≡ b.row.terms

found : (p : Alike → Bool) (a : Alike) (rows : List Alike) → list_all p rows ≡ true → (b : Alike) → find (same_terms a) rows ≡ Some b → IsFound p a b
found p a [] all b e = absurd (cc)
found p a (x ∷ xs) all b e = by_test (same_terms a x) refl e (found p a xs (and_parts (p x) (list_all p xs) all).1 b)
  where
    by_test : (t : Bool) → same_terms a x ≡ t → cond t (Some x) (find (same_terms a) xs) ≡ Some b → (find (same_terms a) xs ≡ Some b → IsFound p a b) → IsFound p a b
    by_test true same is later =
        let here = same_Some x b is in record {
          passes = ap p (sym here) ∙ (and_parts (p x) (list_all p xs) all).0;
          terms = (decides_equal_terms a.row.terms x.row.terms).0 same ∙ ap (λ (y : Alike). y.row.terms) here;
        }
    by_test false other is later = later is

by_constant : (v : ℕ → ℤ) (a b : Alike) → a.row.terms ≡ b.row.terms → terms_value a.row.terms v ≡ terms_value b.row.terms v
by_constant v a b same = ap (λ ts. terms_value ts v) same

above_met : (v : ℕ → ℤ) (a : Alike) (rows : List Alike) → list_all (is_met v) rows ≡ true → is_above rows a ≡ true → is_met v a ≡ true
above_met v a rows all above = by_option (find (same_terms a) rows) refl above
  where
    by_option : (o : Option Alike) → find (same_terms a) rows ≡ o → option_map_or (λ b. int_le b.row.k a.row.k) o false ≡ true → is_met v a ≡ true
    by_option None none e = absurd (cc)
    by_option (Some b) is e =
        let f = found (is_met v) a rows all b is in
        let same = by_constant v a b f.terms in
        let met : int_le (pos 0) (b.row.k +ℤ terms_value b.row.terms v) ≡ true = f.passes in
        by_test (int_le (pos 0) (a.row.k +ℤ terms_value a.row.terms v)) refl same met
      where
        by_test : (t : Bool) → int_le (pos 0) (a.row.k +ℤ terms_value a.row.terms v) ≡ t → terms_value a.row.terms v ≡ terms_value b.row.terms v
            → int_le (pos 0) (b.row.k +ℤ terms_value b.row.terms v) ≡ true → t ≡ true
        by_test true i same met = refl
        by_test false i same met = absurd (omega (arith, ints, i, same, met, e))

below_unmet : (v : ℕ → ℤ) (a : Alike) (rows : List Alike) → list_all (λ b. not (is_met v b)) rows ≡ true → is_below rows a ≡ true → is_met v a ≡ false
below_unmet v a rows all below = by_option (find (same_terms a) rows) refl below
  where
    by_option : (o : Option Alike) → find (same_terms a) rows ≡ o → option_map_or (λ b. int_le a.row.k b.row.k) o false ≡ true → is_met v a ≡ false
    by_option None none e = absurd (cc)
    by_option (Some b) is e =
        let f = found (λ c. not (is_met v c)) a rows all b is in
        let same = by_constant v a b f.terms in
        by_tests (int_le (pos 0) (a.row.k +ℤ terms_value a.row.terms v)) refl (int_le (pos 0) (b.row.k +ℤ terms_value b.row.terms v)) refl f.passes same
      where
        by_tests : (t : Bool) → int_le (pos 0) (a.row.k +ℤ terms_value a.row.terms v) ≡ t → (u : Bool) → int_le (pos 0) (b.row.k +ℤ terms_value b.row.terms v) ≡ u
            → not u ≡ true → terms_value a.row.terms v ≡ terms_value b.row.terms v → t ≡ false
        by_tests false i u j unmet same = refl
        by_tests true i false j unmet same = absurd (omega (arith, ints, i, j, same, e))
        by_tests true i true j unmet same = absurd (cc)

-- ---- what is told

pub told_right : (told : Told) (v : ℕ → ℤ) → are_true told v ≡ true → (a : Alike) (answer : Bool) → tells told a ≡ Some answer → answer ≡ int_le (pos 0) (value a.row v)
told_right told v are a answer is = by_tests (is_above told.least a) refl (is_below told.most a) refl is
  where
    by_tests : (t : Bool) → is_above told.least a ≡ t → (u : Bool) → is_below told.most a ≡ u → cond t (Some true) (cond u (Some false) None) ≡ Some answer → answer ≡ int_le (pos 0) (value a.row v)
    by_tests true above u i e =
        let both = and_parts (list_all (is_met v) told.least) (list_all (λ b. not (is_met v b)) told.most) are in
        sym (same_Some true answer e) ∙ sym (above_met v a told.least both.0 above)
    by_tests false i true below e =
        let both = and_parts (list_all (is_met v) told.least) (list_all (λ b. not (is_met v b)) told.most) are in
        sym (same_Some false answer e) ∙ sym (below_unmet v a told.most both.1 below)
    by_tests false i false j e = absurd (cc)

-- ---- what is learned

module _ (p : Alike → Bool) (a : Alike) (passes : p a ≡ true) where
  swapped : (test : Alike → Bool) (rows : List Alike) → list_all p rows ≡ true → list_all p (swap_key test rows a) ≡ true
  swapped test [] all = refl
  swapped test (x ∷ xs) all = by_test (test x) (swapped test xs (and_parts (p x) (list_all p xs) all).1)
    where
      by_test : (t : Bool) → list_all p (swap_key test xs a) ≡ true → list_all p (cond t (a ∷ xs) (x ∷ swap_key test xs a)) ≡ true
      by_test true later = let both = and_parts (p x) (list_all p xs) all in λ i. passes i && both.1 i
      by_test false later = let both = and_parts (p x) (list_all p xs) all in λ i. both.0 i && later i

  put_passes : (rows : List Alike) → list_all p rows ≡ true → list_all p (put rows a) ≡ true
  put_passes rows all = by_test (list_any (same_terms a) rows)
    where
      by_test : (t : Bool) → list_all p (cond t (swap_key (same_terms a) rows a) (rows ++ a ∷ [])) ≡ true
      by_test true = swapped (same_terms a) rows all
      by_test false = list_all-append p rows (a ∷ []) ∙ (λ i. all i && (passes i && true))

pub learned_true : (told : Told) (v : ℕ → ℤ) → are_true told v ≡ true → (a : Alike) (answer : Bool) → answer ≡ int_le (pos 0) (value a.row v) → are_true (learned told a answer) v ≡ true
learned_true told v are a true is =
    let both = and_parts (list_all (is_met v) told.least) (list_all (λ b. not (is_met v b)) told.most) are in
    let first = put_passes (is_met v) a (sym is) told.least both.0 in λ i. first i && both.1 i
learned_true told v are a false is =
    let both = and_parts (list_all (is_met v) told.least) (list_all (λ b. not (is_met v b)) told.most) are in
    let later = put_passes (λ b. not (is_met v b)) a (ap not (sym is)) told.most both.1 in λ i. both.0 i && later i

-- what is told is true once a row was learned, or where there was no memory for it
pub after_learning : {A E : Type 0} (r : Result A E) (old new : Told) (a : Alike) (answer : Bool) → OnOk r (new ≡ learned old a answer) → OnErr r (new ≡ old) → (v : ℕ → ℤ)
    → are_true old v ≡ true → answer ≡ int_le (pos 0) (value a.row v) → are_true new v ≡ true
after_learning (Ok x) old new a answer ok err v are is = ap (λ t. are_true t v) ok ∙ learned_true old v are a answer is
after_learning (Err e) old new a answer ok err v are is = ap (λ t. are_true t v) err ∙ are
