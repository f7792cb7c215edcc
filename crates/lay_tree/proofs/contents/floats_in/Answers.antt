use Rattle.std.proofs.Common.{◌≡◌, arith}
use Rattle.layout_semantics.specs.FlowBoxes.{flow_children}
use Rattle.lay_tree.proofs.Kids.{child-at, flow-floats}
use Rattle.lay_tree.proofs.contents.floats_in.Goals as goal

pub returns-clause-each : goal.returns-clause-each
returns-clause-each c =
    let flows = flow-floats c.args.tree.now c.args.at c.requires.inline in
    let all : c.add_floats.new.floats.items ≡ flow_children c.args.tree.now c.args.at = grind arith in
    λ i l. child-at c.args.tree.now c.args.at i c.add_floats.new.floats.items all l
