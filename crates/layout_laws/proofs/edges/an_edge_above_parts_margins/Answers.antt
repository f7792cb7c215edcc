use Rattle.layout_laws.proofs.EdgeLaws.{border-parts, padding-parts}
use Rattle.layout_laws.proofs.edges.an_edge_above_parts_margins.Goals as goal

pub returns-clause-border : goal.returns-clause-border
returns-clause-border c passed cb e = border-parts c.args.tree.now c.args.world c.args.at c.requires.within c.requires.clear passed cb e

pub returns-clause-padding : goal.returns-clause-padding
returns-clause-padding c passed cb e = padding-parts c.args.tree.now c.args.world c.args.at c.requires.within c.requires.clear passed cb e
