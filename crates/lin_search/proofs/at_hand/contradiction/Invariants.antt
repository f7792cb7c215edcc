use Rattle.std.proofs.Common.{◌≡◌, ◌<◌, ℕ, false}
use Rattle.std.specs.Prelude.{slice_get}
use Rattle.lin_proof.specs.Derivations.{is_contradiction}
use Rattle.lin_search.proofs.at_hand.contradiction.Given as goal

abbrev pub invariant-loop-at : goal.invariant-loop-at
invariant-loop-at l = (k : ℕ) → k < l.at → is_contradiction (slice_get l.facts k) ≡ false
