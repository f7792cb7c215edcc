use Rattle.layout_laws.proofs.OwnBoxes.{text-law, break-law}
use Rattle.layout_laws.proofs.sorts_of_boxes.a_text_and_a_break_are_inline.Goals as goal

pub returns-clause-text : goal.returns-clause-text
returns-clause-text c = text-law c.args.page.now.nodes c.args.styles.now c.args.page.now.ok

pub returns-clause-forced : goal.returns-clause-forced
returns-clause-forced c = break-law c.args.page.now.nodes c.args.styles.now c.args.page.now.ok
