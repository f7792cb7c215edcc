use Rattle.layout_laws.proofs.BoxContent.{node_not_hidden, above_not_hidden}
use Rattle.layout_laws.proofs.boxes.no_hidden_node_has_a_box.Goals as goal

pub returns-clause-own : goal.returns-clause-own
returns-clause-own c = node_not_hidden c.args.page.now.nodes c.args.styles.now c.args.page.now.ok c.args.at

pub returns-clause-above : goal.returns-clause-above
returns-clause-above c = above_not_hidden c.args.page.now.nodes c.args.styles.now c.args.page.now.ok c.args.at
