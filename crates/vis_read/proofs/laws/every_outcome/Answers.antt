use Rattle.vis_read.proofs.Exact as exact
use Rattle.vis_read.proofs.laws.every_outcome.Goals as goal

pub returns : goal.returns
returns c = exact.outcome
