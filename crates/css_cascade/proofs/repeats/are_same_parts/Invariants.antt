use Rattle.std.proofs.Common.{◌≡◌, take, length}
use Rattle.css_cascade.proofs.repeats.are_same_parts.Given as goal

abbrev pub invariant-loop-at : goal.invariant-loop-at
invariant-loop-at l = (length l.a ≡ length l.b) × (take l.at l.a ≡ take l.at l.b)
