use Rattle.std.proofs.Common.{◌≡◌, replicate, None}
use Rattle.css_cascade.proofs.order.no_winners.Given as goal

abbrev pub invariant-loop-slot : goal.invariant-loop-slot
invariant-loop-slot l = l.best.items ≡ replicate l._slot None
