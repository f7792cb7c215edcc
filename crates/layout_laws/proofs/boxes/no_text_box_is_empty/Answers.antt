use Rattle.layout_laws.proofs.Whole.{text_not_empty}
use Rattle.layout_laws.proofs.boxes.no_text_box_is_empty.Goals as goal

pub returns : goal.returns
returns c = text_not_empty c.args.page.now.nodes c.args.styles.now c.args.page.now.ok c.args.at
