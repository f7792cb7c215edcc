use Rattle.page_boxes.proofs.DocumentOrder.{tree_of_page}
use Rattle.page_boxes.proofs.laws.the_boxes_of_a_page_are_a_tree.Goals as goal

pub returns : goal.returns
returns c = tree_of_page c.args.page.now.nodes c.args.styles.now c.args.fonts.now c.args.page.now.ok c.requires.styled c.requires.no_block_in_inlines
