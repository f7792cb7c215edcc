use Rattle.lay_preferred.proofs.SmallBoxes.{boxes-fit, inside-low, outer-low}
use Rattle.lay_preferred.proofs.laws.preferred_widths_of_small_boxes.Goals as goal

pub returns-clause-fit : goal.returns-clause-fit
returns-clause-fit c = boxes-fit c.args.tree.now

pub returns-clause-inside : goal.returns-clause-inside
returns-clause-inside c = inside-low c.args.tree.now

pub returns-clause-outer : goal.returns-clause-outer
returns-clause-outer c = outer-low c.args.tree.now
