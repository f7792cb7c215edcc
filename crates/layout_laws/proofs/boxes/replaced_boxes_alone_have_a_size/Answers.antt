use Rattle.layout_laws.proofs.BoxFacts.{size_where_replaced}
use Rattle.layout_laws.proofs.boxes.replaced_boxes_alone_have_a_size.Goals as goal

pub returns : goal.returns
returns c = size_where_replaced c.args.page.now.nodes c.args.styles.now c.args.page.now.ok c.args.at
