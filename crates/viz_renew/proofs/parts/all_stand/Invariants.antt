use Rattle.std.proofs.Common.{take}
use Rattle.viz_renew.specs.Renewals.{AllStand}
use Rattle.viz_renew.proofs.parts.all_stand.Given as goal

abbrev pub invariant-loop-at : goal.invariant-loop-at
invariant-loop-at l = AllStand (take l.at l.jobs) (take l.at l.certs)
