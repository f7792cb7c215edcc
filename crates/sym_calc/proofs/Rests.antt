-- What is left of a row that is divided: its numbers, and by which numbers something is left.
use Rattle.std.proofs.Common.{◌≡◌, ◌≢◌, ℕ, ◌<◌, ◌%◌, ℤ, pos, negsuc, ◌<ℤ◌, Bool, true, false, cond, not, ◌&&◌, nat_lt, [], ◌∷◌, length, refl, ◌∙◌, ap, arith, IsTrue}
use Rattle.std.specs.Ordering.{int_eq}
use Rattle.std.specs.Int.{int_rem_euclid}
use Rattle.std.specs.Int.Signed.{lt_z}
use Rattle.std.specs.List.{list_all}
use Rattle.std.proofs.lemmas.Int.{ints}
use Rattle.std.proofs.lemmas.Bool.Decides.{nat_tests}
use Rattle.lin_proof.specs.Form.{Form, Terms}
use Rattle.cert_semantics.specs.Shapes.{is_remainder, has_remainders, has_variable}
use Rattle.sym_calc.specs.Division.{remainder_terms, remainder}

within : (r m : ℕ) → r < m → is_remainder (pos m) (pos r) ≡ true
within r m less = by_tests (lt_z (pos r) (pos 0)) refl (lt_z (pos r) (pos m)) refl
  where
    by_tests : (a : Bool) → lt_z (pos r) (pos 0) ≡ a → (b : Bool) → lt_z (pos r) (pos m) ≡ b → (not a && b) ≡ true
    by_tests true e b f = absurd (omega (arith, ints, e))
    by_tests false e true f = refl
    by_tests false e false f = absurd (omega (arith, ints, f, less))

rest_within : (n d : ℤ) → pos 0 <ℤ d → is_remainder d (int_rem_euclid n d) ≡ true
rest_within (pos a) (pos m) h = let some : 0 < m = omega (arith, ints, h) in within (a % m) m (omega arith)
rest_within (negsuc a) (pos m) h = let some : 0 < m = omega (arith, ints, h) in within _ m (omega arith)
rest_within n (negsuc m) h = absurd (omega (arith, ints, h))

rests_within : (d : ℤ) → pos 0 <ℤ d → (ts : Terms) → list_all (λ t. is_remainder d t.1) (remainder_terms d ts) ≡ true
rests_within d h [] = refl
rests_within d h (t ∷ ts) = by_test (rests_within d h ts) (int_eq (int_rem_euclid t.1 d) (pos 0))
  where
    by_test : list_all (λ u. is_remainder d u.1) (remainder_terms d ts) ≡ true → (b : Bool) → list_all (λ u. is_remainder d u.1) (cond b (remainder_terms d ts) ((t.0, int_rem_euclid t.1 d) ∷ remainder_terms d ts)) ≡ true
    by_test rest true = rest
    by_test rest false = let here = rest_within t.1 d h in λ i. here i && rest i

pub rest_has_remainders : (d : ℤ) (row : Form) → pos 0 <ℤ d → IsTrue (has_remainders d (remainder d row))
rest_has_remainders d row h =
    let here = rest_within row.k d h in
    let rest = rests_within d h row.terms in
    λ i. here i && rest i

-- ---- by 1 nothing is left

no_rest : (n : ℤ) → int_rem_euclid n (pos 1) ≡ pos 0
no_rest (pos a) = let none : a % 1 ≡ 0 = omega arith in ap pos none
no_rest (negsuc a) = ap pos (omega arith)

none_by_one : (ts : Terms) → remainder_terms (pos 1) ts ≡ []
none_by_one [] = refl
none_by_one (t ∷ ts) =
    let rest = none_by_one ts in
    (λ i. cond (int_eq (no_rest t.1 i) (pos 0)) (remainder_terms (pos 1) ts) ((t.0, int_rem_euclid t.1 (pos 1)) ∷ remainder_terms (pos 1) ts)) ∙ rest

pub rest_by_more : (d : ℤ) (row : Form) → pos 0 <ℤ d → (remainder d row).terms ≢ [] → IsTrue (lt_z (pos 1) d)
rest_by_more d row h some = by_test (lt_z (pos 1) d) refl
  where
    by_test : (b : Bool) → lt_z (pos 1) d ≡ b → b ≡ true
    by_test true e = refl
    by_test false e =
        let one : d ≡ pos 1 = omega (arith, ints, e, h) in
        absurd (some (ap (λ n. remainder_terms n row.terms) one ∙ none_by_one row.terms))

pub some_variable : (row : Form) → row.terms ≢ [] → IsTrue (has_variable row)
some_variable row some = by_terms row.terms some
  where
    by_terms : (ts : Terms) → ts ≢ [] → nat_lt 0 (length ts) ≡ true
    by_terms [] none = absurd (none refl)
    by_terms (t ∷ ts) more = grind (arith, nat_tests)
