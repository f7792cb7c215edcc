-- Which derivations entail a form by facts, and when a call over its denial gives an answer.
use Rattle.std.specs.Prelude.{◌≡◌, ℕ, true, false, List, [], ◌∷◌, ◌++◌, Result, Ok, Err}
use Rattle.lin_proof.specs.Form.{Form, denied, form_fits}
use Rattle.lin_proof.specs.declared.row.RowFault.{RowFault}
use Rattle.lin_proof.specs.declared.row.RowFault.TheVariants.{Mem, Coeff}
use Rattle.lin_proof.specs.declared.derivation.Derivation.{Derivation}
use Rattle.lin_proof.specs.Derivations.{Refutes}

-- the facts followed by the denial -f - 1 of a form
abbrev pub with_denied : List Form → Form → List Form
with_denied facts f = facts ++ denied f ∷ []

-- each number of the denial is one of `i128`, and the derivation refutes the facts followed by it
abbrev pub Entails : List Form → ℕ → Form → Derivation → Type 0
Entails facts vars f d = (form_fits (denied f) ≡ true) × Refutes (with_denied facts f) vars d

-- Ok: each number of the form's denial is one of `i128`; Coeff: one is not; want of memory says nothing
abbrev pub IsByDenial : {A : Type 0} → Result A RowFault → Form → Type 0
IsByDenial (Ok answer) f = form_fits (denied f) ≡ true
IsByDenial (Err Mem) f = Unit {0}
IsByDenial (Err Coeff) f = form_fits (denied f) ≡ false
