use Rattle.std.proofs.Common.{◌≡◌, ◌<◌, ℕ, ℤ, false, Some}
use Rattle.std.specs.Prelude.{slice_get}
use Rattle.lin_proof.specs.Form.{Form}
use Rattle.lin_proof.specs.Pairs.{closes}
use Rattle.lin_search.proofs.at_hand.partner.Given as goal

abbrev pub invariant-loop-at : goal.invariant-loop-at
invariant-loop-at l = (k : ℕ) (g : Form) → k < l.at → slice_get l.facts k ≡ Some g → (a b : ℤ) → closes l.fact g a b ≡ false
