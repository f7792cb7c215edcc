use Rattle.std.proofs.Common.{◌≡◌}
use Rattle.vis_read.specs.steps.Machine.{notted}
use Rattle.vis_read.proofs.acts.notted.Given as goal

abbrev pub invariant-loop-not : goal.invariant-loop-not
invariant-loop-not l = l.whole ≡ notted l._not l.fn.formula
