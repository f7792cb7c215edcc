use Rattle.layout_laws.proofs.Whole.{root_box}
use Rattle.layout_laws.proofs.boxes.the_first_box_is_the_roots.Goals as goal

pub returns-clause-node : goal.returns-clause-node
returns-clause-node c b e = (root_box c.args.page.now.nodes c.args.styles.now c.args.page.now.ok b e).0

pub returns-clause-context : goal.returns-clause-context
returns-clause-context c b e = (root_box c.args.page.now.nodes c.args.styles.now c.args.page.now.ok b e).1

pub returns-clause-block : goal.returns-clause-block
returns-clause-block c b e = (root_box c.args.page.now.nodes c.args.styles.now c.args.page.now.ok b e).2
