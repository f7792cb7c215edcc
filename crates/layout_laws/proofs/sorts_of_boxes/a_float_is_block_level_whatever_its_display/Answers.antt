use Rattle.layout_laws.proofs.OwnBoxes.{float-law}
use Rattle.layout_laws.proofs.sorts_of_boxes.a_float_is_block_level_whatever_its_display.Goals as goal

pub returns : goal.returns
returns c = float-law c.args.page.now.nodes c.args.styles.now c.args.page.now.ok
