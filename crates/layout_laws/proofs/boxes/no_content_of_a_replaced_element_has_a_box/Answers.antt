use Rattle.layout_laws.proofs.BoxContent.{above_not_closed}
use Rattle.layout_laws.proofs.boxes.no_content_of_a_replaced_element_has_a_box.Goals as goal

pub returns : goal.returns
returns c = above_not_closed c.args.page.now.nodes c.args.styles.now c.args.page.now.ok c.args.at
