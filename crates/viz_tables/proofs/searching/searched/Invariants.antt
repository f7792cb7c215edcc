use Rattle.std.proofs.Common.{◌≡◌, ◌≤◌}
use Rattle.viz_base.specs.Worlds.{IsInRange}
use Rattle.viz_tables.proofs.searching.searched.Given as goal

abbrev pub invariant-loop-stretch : goal.invariant-loop-stretch
invariant-loop-stretch l = (l.job ≡ l.initial.job) × IsInRange l.initial.job.range l.end × (l.start.w ≤ l.end.w)

abbrev pub decreases-loop-stretch : goal.decreases-loop-stretch
decreases-loop-stretch l = l.end.w
