use Rattle.std.proofs.Common.{◌≡◌, ◌==◌, ◌++◌, not, drop, filter}
use Rattle.lay_line.proofs.loads.others.Given as goal

abbrev pub invariant-loop-other : goal.invariant-loop-other
invariant-loop-other l = l.kept.items ++ filter (λ other. not (other == l.at)) (drop l.other-index l.other-items) ≡ filter (λ other. not (other == l.at)) l.other-items
