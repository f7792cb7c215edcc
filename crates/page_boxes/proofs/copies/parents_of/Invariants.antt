use Rattle.std.proofs.Common.{◌≡◌, ◌++◌, drop}
use Rattle.layout_semantics.specs.BoxTrees.{tree_parents}
use Rattle.page_boxes.proofs.copies.parents_of.Given as goal

abbrev pub invariant-loop-node : goal.invariant-loop-node
invariant-loop-node l = l.parents ++ tree_parents (drop l.node-index l.nodes) ≡ tree_parents l.nodes
