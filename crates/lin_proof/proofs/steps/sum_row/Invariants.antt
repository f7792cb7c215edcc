use Rattle.std.proofs.Common.{◌≡◌, drop}
use Rattle.lin_proof.specs.Derivations.{sum_from, zero_form}
use Rattle.lin_proof.proofs.steps.sum_row.Given as goal

abbrev pub invariant-loop-part : goal.invariant-loop-part
invariant-loop-part l = sum_from l.known l.sum (drop l.part-index l.parts) ≡ sum_from l.known zero_form l.parts
