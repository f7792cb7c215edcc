use Rattle.layout_laws.proofs.Levels.{kid-behind}
use Rattle.lay_tree.proofs.boxes.children.Goals as goal

pub returns-clause-each : goal.returns-clause-each
returns-clause-each c = λ i l. kid-behind c.args.tree.now c.args.at i c.kids.result.now c.kids.ensures l
