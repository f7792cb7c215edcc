use Rattle.std.proofs.Common.{length}
use Rattle.cert_check.specs.steps.Stream.{IsWalking}
use Rattle.cert_check.proofs.bytes.judge.Given as goal

abbrev pub invariant-loop-visits : goal.invariant-loop-visits
invariant-loop-visits l = IsWalking l.job l.fn.reader l.reader l.visits l.number

abbrev pub decreases-loop-visits : goal.decreases-loop-visits
decreases-loop-visits l = length l.reader.rest
