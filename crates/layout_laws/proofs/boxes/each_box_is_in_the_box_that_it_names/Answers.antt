use Rattle.layout_laws.proofs.Whole.{in_its_box}
use Rattle.layout_laws.proofs.boxes.each_box_is_in_the_box_that_it_names.Goals as goal

pub returns : goal.returns
returns c = in_its_box c.args.page.now.nodes c.args.styles.now c.args.page.now.ok c.args.at c.args.kid c.requires.names
