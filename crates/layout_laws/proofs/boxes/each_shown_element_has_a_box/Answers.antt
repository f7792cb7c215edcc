use Rattle.layout_laws.proofs.Whole.{element_boxed}
use Rattle.layout_laws.proofs.boxes.each_shown_element_has_a_box.Goals as goal

pub returns : goal.returns
returns c = element_boxed c.args.page.now.nodes c.args.styles.now c.args.page.now.ok c.args.node c.requires.styled c.requires.element c.requires.shown
