use Rattle.std.proofs.Common.{◌≡◌, take}
use Rattle.page_build.specs.Renumbering.{renumbered_nodes}
use Rattle.page_build.specs.Seen.{number_at}
use Rattle.page_build.proofs.renumbering.renumbered_nodes.Given as goal

abbrev pub invariant-loop-node : goal.invariant-loop-node
invariant-loop-node l = l.named ≡ renumbered_nodes (number_at l.numbers) (take l.node-index l.nodes)
