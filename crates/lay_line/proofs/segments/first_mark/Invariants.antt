use Rattle.std.proofs.Common.{◌≡◌, drop}
use Rattle.lay_line.specs.steps.Loading.{mark_from}
use Rattle.lay_line.proofs.segments.first_mark.Given as goal

abbrev pub invariant-loop-mark : goal.invariant-loop-mark
invariant-loop-mark l = (mark_from l.count (drop l.mark-index l.marks) ≡ mark_from 0 l.marks) × (l.count ≡ l.mark-index)
