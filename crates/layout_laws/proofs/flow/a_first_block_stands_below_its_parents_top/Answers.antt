use Rattle.layout_laws.proofs.PlainPage.{parted-law}
use Rattle.layout_laws.proofs.flow.a_first_block_stands_below_its_parents_top.Goals as goal

pub returns : goal.returns
returns c = parted-law c.args.tree.now c.args.world c.requires
