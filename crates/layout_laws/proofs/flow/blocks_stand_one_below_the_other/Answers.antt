use Rattle.layout_laws.proofs.PlainPage.{next-law}
use Rattle.layout_laws.proofs.flow.blocks_stand_one_below_the_other.Goals as goal

pub returns : goal.returns
returns c = next-law c.args.tree.now c.args.world c.requires
