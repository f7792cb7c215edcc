use Rattle.std.proofs.Common.{◌≡◌, None, replicate}
use Rattle.css_select.proofs.siblings.no_nodes.Given as goal

abbrev pub invariant-loop-node : goal.invariant-loop-node
invariant-loop-node l = l.nodes.items ≡ replicate l._node None
