use Rattle.layout_laws.proofs.BoxLaws.{named}
use Rattle.layout_laws.proofs.boxes.the_boxes_in_a_box_name_it.Goals as goal

pub returns : goal.returns
returns c = named c.args.page.now.nodes c.args.styles.now c.args.page.now.ok c.args.at c.args.kid c.requires.inside
