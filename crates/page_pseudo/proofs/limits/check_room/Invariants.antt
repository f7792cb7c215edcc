use Rattle.std.proofs.Common.{◌≡◌, ◌+◌}
use Rattle.page_pseudo.specs.Limits.{made_before}
use Rattle.page_pseudo.specs.steps.Seeds.{written}
use Rattle.page_pseudo.proofs.limits.check_room.Given as goal

abbrev pub invariant-loop-at : goal.invariant-loop-at
invariant-loop-at l = l.room + made_before (written l.seeds) l.at ≡ 262144
