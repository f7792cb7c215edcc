use Rattle.std.proofs.Common.{◌≡◌, length}
use Rattle.vis_read.specs.steps.Machine.{closed}
use Rattle.vis_read.proofs.acts.closed.Given as goal

abbrev pub invariant-loop-frame : goal.invariant-loop-frame
invariant-loop-frame l = closed l.frames l.names l.value ≡ closed l.fn.frames l.fn.names l.fn.formula

abbrev pub decreases-loop-frame : goal.decreases-loop-frame
decreases-loop-frame l = length l.frames
