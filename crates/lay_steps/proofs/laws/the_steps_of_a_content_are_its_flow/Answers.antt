use Rattle.std.proofs.Common.{length, refl, arith}
use Rattle.layout_semantics.specs.FlowBoxes.{room}
use Rattle.lay_steps.specs.Tables.{table_to}
use Rattle.lay_steps.proofs.Tables.{flow-agrees, table-served}
use Rattle.lay_steps.proofs.laws.the_steps_of_a_content_are_its_flow.Goals as goal

pub returns-clause-context : goal.returns-clause-context
returns-clause-context c left top p =
    let tree = c.args.tree.now in
    let w = c.args.world in
    let n = length tree.boxes in
    (flow-agrees tree w (table_to tree w n) 0 (table-served tree w) n c.args.at left (room tree w c.args.at) top p (omega arith)
    (record { page = c.requires.on_page; room = refl; block = c.requires.container }) (omega arith)).context

pub returns-clause-boxes : goal.returns-clause-boxes
returns-clause-boxes c left top p =
    let tree = c.args.tree.now in
    let w = c.args.world in
    let n = length tree.boxes in
    (flow-agrees tree w (table_to tree w n) 0 (table-served tree w) n c.args.at left (room tree w c.args.at) top p (omega arith)
    (record { page = c.requires.on_page; room = refl; block = c.requires.container }) (omega arith)).boxes
