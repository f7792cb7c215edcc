use Rattle.cert_semantics.proofs.Trees.{preorder}
use Rattle.cert_semantics.proofs.nodes.nodes_are_in_preorder.Goals as goal

pub returns : goal.returns
returns c = preorder
