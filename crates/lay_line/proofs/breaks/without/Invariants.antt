use Rattle.std.proofs.Common.{◌≡◌, ◌++◌, drop}
use Rattle.lay_line.specs.steps.Cutting.{without}
use Rattle.lay_line.proofs.breaks.without.Given as goal

abbrev pub invariant-loop-start : goal.invariant-loop-start
invariant-loop-start l = l.others.items ++ without l.at (drop l.start-index l.starts) ≡ without l.at l.starts
