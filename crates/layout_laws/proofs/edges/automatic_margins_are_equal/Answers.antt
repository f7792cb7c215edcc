use Rattle.layout_laws.proofs.EdgeLaws.{block-halved}
use Rattle.layout_laws.proofs.edges.automatic_margins_are_equal.Goals as goal

pub returns-clause-no_wider : goal.returns-clause-no_wider
returns-clause-no_wider c cb h = (block-halved c.args.tree.now c.args.world c.args.at c.requires.left c.requires.right cb c.requires.block h).0

pub returns-clause-no_narrower : goal.returns-clause-no_narrower
returns-clause-no_narrower c cb h = (block-halved c.args.tree.now c.args.world c.args.at c.requires.left c.requires.right cb c.requires.block h).1
