use Rattle.layout_laws.proofs.Separated.{between}
use Rattle.layout_laws.proofs.boxes.a_block_stands_between_two_anonymous_blocks.Goals as goal

pub returns : goal.returns
returns c b d e f g h i j k l = between c.args.page.now.nodes c.args.styles.now c.args.page.now.ok c.args.at c.args.first c.args.second b d e f c.requires g h i j k l
