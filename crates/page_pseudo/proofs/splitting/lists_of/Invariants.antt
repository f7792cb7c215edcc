use Rattle.std.proofs.Common.{◌≡◌, ◌++◌, map}
use Rattle.page_pseudo.specs.declared.nodes.GrownNode.{GrownNode}
use Rattle.page_pseudo.specs.Grown.{node_of}
use Rattle.page_pseudo.proofs.splitting.lists_of.Given as goal

abbrev pub invariant-loop-node : goal.invariant-loop-node
invariant-loop-node l = record {
  nodes : l.lists.nodes ++ map node_of l.node-iterator.rest.items ≡ map node_of l.fn.grown.items;
  winners : l.lists.winners ++ map (λ (g : GrownNode). g.winners) l.node-iterator.rest.items ≡ map (λ (g : GrownNode). g.winners) l.fn.grown.items;
  from : l.lists.from ++ map (λ (g : GrownNode). g.from) l.node-iterator.rest.items ≡ map (λ (g : GrownNode). g.from) l.fn.grown.items;
}
