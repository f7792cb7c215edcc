use Rattle.std.proofs.Common.{◌≡◌, [], replicate}
use Rattle.css_cascade.proofs.pseudo.no_settings.Given as goal

abbrev pub invariant-loop-node : goal.invariant-loop-node
invariant-loop-node l = l.winners ≡ replicate l._node []
