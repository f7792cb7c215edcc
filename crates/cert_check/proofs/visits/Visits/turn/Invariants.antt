use Rattle.std.proofs.Common.{◌+◌}
use Rattle.cert_check.specs.steps.Ways.{path_at}
use Rattle.cert_check.specs.steps.Stream.{depth}
use Rattle.cert_check.proofs.Turns.{IsTurning}
use Rattle.cert_check.proofs.visits.Visits.turn.Given as goal

-- what is due behind stays due, however far up
abbrev pub invariant-loop-last : goal.invariant-loop-last
invariant-loop-last l = IsTurning l.fn.self l.self (l.number + 1)

abbrev pub decreases-loop-last : goal.decreases-loop-last
decreases-loop-last l = depth (path_at l.self.descent)
