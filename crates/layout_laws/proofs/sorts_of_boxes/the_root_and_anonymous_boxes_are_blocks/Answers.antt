use Rattle.layout_laws.proofs.OwnBoxes.{root-law, anonymous-law}
use Rattle.layout_laws.proofs.sorts_of_boxes.the_root_and_anonymous_boxes_are_blocks.Goals as goal

pub returns-clause-root : goal.returns-clause-root
returns-clause-root c = root-law c.args.page.now.nodes c.args.styles.now c.args.page.now.ok

pub returns-clause-anonymous : goal.returns-clause-anonymous
returns-clause-anonymous c = anonymous-law c.args.page.now.nodes c.args.styles.now c.args.page.now.ok
