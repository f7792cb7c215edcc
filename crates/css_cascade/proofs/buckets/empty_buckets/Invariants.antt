use Rattle.std.proofs.Common.{◌≡◌, length}
use Rattle.css_cascade.proofs.buckets.empty_buckets.Given as goal

abbrev pub invariant-loop-at : goal.invariant-loop-at
invariant-loop-at l = length l.named.items ≡ l._at
