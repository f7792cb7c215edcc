use Rattle.std.proofs.Common.{◌-◌, length}
use Rattle.vis_read.proofs.Sequence.{Goes}
use Rattle.vis_read.proofs.tokens.tokens.Given as goal

abbrev pub invariant-loop-at : goal.invariant-loop-at
invariant-loop-at l = Goes l.page.nodes l.text l.found l.at

abbrev pub decreases-loop-at : goal.decreases-loop-at
decreases-loop-at l = length l.text - l.at
