use Rattle.layout_laws.proofs.Whole.{on_page}
use Rattle.layout_laws.proofs.boxes.each_box_is_on_the_page.Goals as goal

pub returns : goal.returns
returns c = on_page c.args.page.now.nodes c.args.styles.now c.args.page.now.ok c.args.at c.requires.within
