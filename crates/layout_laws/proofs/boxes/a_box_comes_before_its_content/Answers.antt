use Rattle.layout_laws.proofs.BoxLaws.{ascending}
use Rattle.layout_laws.proofs.boxes.a_box_comes_before_its_content.Goals as goal

pub returns : goal.returns
returns c = ascending c.args.page.now.nodes c.args.styles.now c.args.page.now.ok c.args.at
