use Rattle.layout_laws.proofs.PlainPage.{joined-law}
use Rattle.layout_laws.proofs.flow.a_first_block_shares_its_parents_top.Goals as goal

pub returns : goal.returns
returns c = joined-law c.args.tree.now c.args.world c.requires
