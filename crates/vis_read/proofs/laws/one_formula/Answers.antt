use Rattle.vis_read.proofs.Exact as exact
use Rattle.vis_read.proofs.laws.one_formula.Goals as goal

pub returns : goal.returns
returns c = exact.one_formula
