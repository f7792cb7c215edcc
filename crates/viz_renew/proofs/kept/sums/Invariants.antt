use Rattle.std.proofs.Common.{take}
use Rattle.viz_renew.specs.Kept.{AddUp}
use Rattle.viz_renew.proofs.kept.sums.Given as goal

abbrev pub invariant-loop-at : goal.invariant-loop-at
invariant-loop-at l = AddUp (take l.at l.jobs) (take l.at l.certs) l.sums
