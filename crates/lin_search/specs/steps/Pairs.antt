-- Which facts, and which pairs of facts, are contradictions.
use Rattle.std.specs.Prelude.{◌≡◌, true, false, ℕ, ℤ, List, Some, slice_get}
use Rattle.lin_proof.specs.Form.{Form}
use Rattle.lin_proof.specs.declared.multiples.Multiples.{Multiples}
use Rattle.lin_proof.specs.Derivations.{is_contradiction}
use Rattle.lin_search.specs.declared.at_hand.Pair.{Pair}
use Rattle.lin_proof.specs.Pairs.{closes}

-- no fact is a contradiction by itself
abbrev pub NoneAlone : List Form → Type 0
NoneAlone facts = (n : ℕ) → is_contradiction (slice_get facts n) ≡ false

-- the fact of this number is one
abbrev pub IsAlone : List Form → ℕ → Type 0
IsAlone facts n = is_contradiction (slice_get facts n) ≡ true

-- no multiples of f and of a fact close them
abbrev pub NoPartner : Form → List Form → Type 0
NoPartner f facts = (n : ℕ) (g : Form) → slice_get facts n ≡ Some g → (a b : ℤ) → closes f g a b ≡ false

-- these multiples of f and of the fact of this number do
abbrev pub HasPartner : Form → List Form → ℕ → Multiples → Type 0
HasPartner f facts n m = (g : Form) × (slice_get facts n ≡ Some g) × (closes f g m.first m.second ≡ true)

abbrev pub NonePaired : List Form → Type 0
NonePaired facts = (n : ℕ) (f : Form) → slice_get facts n ≡ Some f → NoPartner f facts

abbrev pub IsPair : List Form → Pair → Type 0
IsPair facts p = (f : Form) × (slice_get facts p.first ≡ Some f) × HasPartner f facts p.second p.multiples
