use Rattle.vis_read.proofs.Bounds as bounds
use Rattle.vis_read.proofs.laws.names_are_bound.Goals as goal

pub returns : goal.returns
returns c = bounds.is_bound
