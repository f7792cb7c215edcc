use Rattle.layout_laws.proofs.OwnBoxes.{replaced-law}
use Rattle.layout_laws.proofs.sorts_of_boxes.a_replaced_element_has_a_replaced_box.Goals as goal

pub returns : goal.returns
returns c = replaced-law c.args.page.now.nodes c.args.styles.now c.args.page.now.ok
