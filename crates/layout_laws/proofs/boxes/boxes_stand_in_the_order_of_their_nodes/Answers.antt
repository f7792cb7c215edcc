use Rattle.layout_laws.proofs.BoxFacts.{nodes_in_order}
use Rattle.layout_laws.proofs.boxes.boxes_stand_in_the_order_of_their_nodes.Goals as goal

pub returns : goal.returns
returns c a b e f g h = nodes_in_order c.args.page.now.nodes c.args.styles.now c.args.page.now.ok c.args.first c.args.second a b c.requires.order e f g h
