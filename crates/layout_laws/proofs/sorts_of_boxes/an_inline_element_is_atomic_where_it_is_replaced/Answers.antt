use Rattle.layout_laws.proofs.OwnBoxes.{inline-law, image-law}
use Rattle.layout_laws.proofs.sorts_of_boxes.an_inline_element_is_atomic_where_it_is_replaced.Goals as goal

pub returns-clause-inline : goal.returns-clause-inline
returns-clause-inline c = inline-law c.args.page.now.nodes c.args.styles.now c.args.page.now.ok

pub returns-clause-replaced : goal.returns-clause-replaced
returns-clause-replaced c = image-law c.args.page.now.nodes c.args.styles.now c.args.page.now.ok
