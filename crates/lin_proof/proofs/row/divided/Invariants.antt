use Rattle.std.proofs.Common.{◌≡◌, take}
use Rattle.lin_proof.specs.Cut.{quotients}
use Rattle.lin_proof.proofs.row.divided.Given as goal

abbrev pub invariant-loop-term : goal.invariant-loop-term
invariant-loop-term l = l.quotients ≡ quotients l.d (take l.term-index l.terms)
