use Rattle.std.proofs.Common.{◌≡◌, drop}
use Rattle.css_cascade.specs.steps.Present.{marked_nodes, present_in}
use Rattle.css_cascade.proofs.present.present_in.Given as goal

abbrev pub invariant-loop-node : goal.invariant-loop-node
invariant-loop-node l = marked_nodes l.present.items (drop l.node-index l.node-items) ≡ present_in l.page.nodes
