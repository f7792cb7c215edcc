use Rattle.layout_laws.proofs.OwnBoxes.{inline-block-law}
use Rattle.layout_laws.proofs.sorts_of_boxes.an_inline_block_is_atomic.Goals as goal

pub returns : goal.returns
returns c = inline-block-law c.args.page.now.nodes c.args.styles.now c.args.page.now.ok
