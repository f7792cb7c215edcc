use Rattle.layout_laws.proofs.EdgeLaws.{minimum-apart, minimum-keeps}
use Rattle.layout_laws.proofs.minima.a_minimum_parts_margins.Goals as goal

pub returns-clause-through : goal.returns-clause-through
returns-clause-through c = minimum-apart c.args.tree.now c.args.at c.requires.minimum

pub returns-clause-last : goal.returns-clause-last
returns-clause-last c = minimum-keeps c.args.tree.now c.args.at c.requires.minimum
