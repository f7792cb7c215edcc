-- What a derivation says of an answer.
use Rattle.std.proofs.Common.{◌≡◌, ℕ, ℤ, pos, negsuc, ◌+ℤ◌, ◌*ℤ◌, ◌≤ℤ◌, ◌<ℤ◌, Bool, true, false, ◌&&◌, List, [], ◌∷◌, ◌++◌, None, refl, sym, ◌∙◌, ap, arith}
use Rattle.std.specs.Int.RustNames.{int_le}
use Rattle.std.proofs.lemmas.Int.{ints}
use Rattle.lin_proof.specs.Form.{Form, value}
use Rattle.lin_proof.proofs.Values.{value-denied}
use Rattle.lin_proof.specs.declared.derivation.Derivation.{Derivation}
use Rattle.lin_proof.specs.Derivations.{first_fault}
use Rattle.lin_proof.proofs.Sound.{law}
use Rattle.cert_semantics.proofs.PathFacts.{to_meets}
use Rattle.sym_calc.specs.Knowledge.{are_met, contrary}
use Rattle.sym_calc.proofs.Knowing.{met_all, are_met-append}

-- a row that a derivation refutes beside the facts is below 0 where they are met
refuted_below : (facts : List Form) (other : Form) (vars : ℕ) (why : Derivation) → first_fault (facts ++ other ∷ []) vars why ≡ None
    → (v : ℕ → ℤ) → are_met facts v ≡ true → value other v <ℤ pos 0
refuted_below facts other vars why none v met = by_test (int_le (pos 0) (value other v)) refl
  where
    by_test : (b : Bool) → int_le (pos 0) (value other v) ≡ b → value other v <ℤ pos 0
    by_test true e =
        let all : are_met (facts ++ other ∷ []) v ≡ true = are_met-append facts (other ∷ []) v ∙ (λ i. met i && (e i && true)) in
        absurd (law (facts ++ other ∷ []) vars why none v (to_meets v (facts ++ other ∷ []) (met_all v (facts ++ other ∷ []) all)))
    by_test false e = omega (arith, ints, e)

pub answer_right : (facts : List Form) (answer : Bool) (row other : Form) (vars : ℕ) (why : Derivation) → other ≡ contrary answer row
    → first_fault (facts ++ other ∷ []) vars why ≡ None → (v : ℕ → ℤ) → are_met facts v ≡ true → answer ≡ int_le (pos 0) (value row v)
answer_right facts answer row other vars why is none v met =
    by_answer answer (ap (λ f. value f v) (sym is)) (refuted_below facts other vars why none v met)
  where
    by_answer : (b : Bool) → value (contrary b row) v ≡ value other v → value other v <ℤ pos 0 → b ≡ int_le (pos 0) (value row v)
    by_answer true same below = sym (at_least (value row v) (omega (arith, ints, same, below, value-denied row v)))
      where
        at_least : (z : ℤ) → pos 0 ≤ℤ z → int_le (pos 0) z ≡ true
        at_least z h = by_test (int_le (pos 0) z) refl
          where
            by_test : (c : Bool) → int_le (pos 0) z ≡ c → c ≡ true
            by_test true e = refl
            by_test false e = absurd (omega (arith, ints, e, h))
    by_answer false same below = under (int_le (pos 0) (value row v)) refl
      where
        under : (c : Bool) → int_le (pos 0) (value row v) ≡ c → false ≡ c
        under true e = absurd (omega (arith, ints, e, same, below))
        under false e = refl

-- one number is at most another where their difference is at least 0
pub le_by_difference : (a b d : ℤ) → d ≡ b +ℤ negsuc 0 *ℤ a → int_le (pos 0) d ≡ int_le a b
le_by_difference a b d is = by_tests (int_le (pos 0) d) refl (int_le a b) refl
  where
    by_tests : (p : Bool) → int_le (pos 0) d ≡ p → (q : Bool) → int_le a b ≡ q → p ≡ q
    by_tests true e true f = refl
    by_tests true e false f = absurd (omega (arith, ints, e, f, is))
    by_tests false e true f = absurd (omega (arith, ints, e, f, is))
    by_tests false e false f = refl
