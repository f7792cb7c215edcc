use Rattle.std.proofs.Common.{◌≡◌, false, replicate}
use Rattle.css_cascade.proofs.present.no_words.Given as goal

abbrev pub invariant-loop-at : goal.invariant-loop-at
invariant-loop-at l = l.present.items ≡ replicate l._at false
