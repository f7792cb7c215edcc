use Rattle.layout_laws.proofs.Reaching.{reach_around, reach_own}
use Rattle.layout_laws.proofs.reaches.a_box_reaches_as_far_as_the_box_around_it.Goals as goal

pub returns-clause-around : goal.returns-clause-around
returns-clause-around c = reach_around c.args.tree.now.styles c.args.tree.now.parents c.args.tree.now.fonts

pub returns-clause-own : goal.returns-clause-own
returns-clause-own c = reach_own c.args.tree.now.styles c.args.tree.now.parents c.args.tree.now.fonts
