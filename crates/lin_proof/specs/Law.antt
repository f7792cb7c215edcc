-- What a refutation and an entailment say of whole numbers.
use Rattle.std.specs.Prelude.{◌≡◌, ℕ, ℤ, pos, ◌≤ℤ◌, List, Some, slice_get}
use Rattle.lin_proof.specs.declared.derivation.Derivation.{Derivation}
use Rattle.lin_proof.specs.Form.{Form, value}
use Rattle.lin_proof.specs.Derivations.{Refutes}
use Rattle.lin_proof.specs.Entailments.{Entails}

-- the values of the variables make each form at least 0
abbrev pub Meets : (ℕ → ℤ) → List Form → Type 0
Meets v forms = (n : ℕ) (f : Form) → slice_get forms n ≡ Some f → pos 0 ≤ℤ value f v

-- where a derivation refutes the facts, no values of the variables meet them all
abbrev pub Law : Type 0
Law = (facts : List Form) (variables : ℕ) (d : Derivation) → Refutes facts variables d → (v : ℕ → ℤ) → Meets v facts → ⊥

-- where a derivation entails a row by the facts, all values of the variables that meet the facts meet the row
abbrev pub EntailmentLaw : Type 0
EntailmentLaw = (facts : List Form) (variables : ℕ) (f : Form) (d : Derivation) → Entails facts variables f d
    → (v : ℕ → ℤ) → Meets v facts → pos 0 ≤ℤ value f v
