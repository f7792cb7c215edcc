use Rattle.layout_laws.proofs.BoxContent.{leaf_has_none}
use Rattle.layout_laws.proofs.boxes.leaves_hold_no_box.Goals as goal

pub returns : goal.returns
returns c = leaf_has_none c.args.page.now.nodes c.args.styles.now c.args.page.now.ok c.args.at
