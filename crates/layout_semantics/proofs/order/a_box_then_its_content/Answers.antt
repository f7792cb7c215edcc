use Rattle.layout_semantics.proofs.Forest.{IsForest-from}
use Rattle.layout_semantics.proofs.Orders.{document_order-is}
use Rattle.layout_semantics.proofs.order.a_box_then_its_content.Goals as goal

pub returns : goal.returns
returns c =
    let tree = c.args.tree.now in
    document_order-is tree.boxes c.args.at (IsForest-from tree.boxes tree.styles tree.fonts tree.parents tree.ok) c.requires.within
