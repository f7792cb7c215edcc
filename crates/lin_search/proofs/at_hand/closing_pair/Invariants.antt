use Rattle.std.proofs.Common.{◌≡◌, ◌<◌, ℕ, Some}
use Rattle.std.specs.Prelude.{slice_get}
use Rattle.lin_proof.specs.Form.{Form}
use Rattle.lin_search.specs.steps.Pairs.{NoPartner}
use Rattle.lin_search.proofs.at_hand.closing_pair.Given as goal

abbrev pub invariant-loop-at : goal.invariant-loop-at
invariant-loop-at l = (k : ℕ) (f : Form) → k < l.at → slice_get l.facts k ≡ Some f → NoPartner f l.facts
