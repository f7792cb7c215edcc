use Rattle.std.proofs.Common.{arith, length}
use Rattle.layout_semantics.proofs.Forest.{IsForest-from}
use Rattle.layout_semantics.proofs.Orders.{order_to-enough}
use Rattle.layout_semantics.proofs.order.more_levels_change_nothing.Goals as goal

pub returns : goal.returns
returns c =
    let tree = c.args.tree.now in
    let forest = IsForest-from tree.boxes tree.styles tree.fonts tree.parents tree.ok in
    order_to-enough c.args.levels (length tree.boxes) tree.boxes c.args.at forest c.requires.within (let many = c.requires.levels in omega arith) (omega arith)
