use Rattle.cert_semantics.proofs.LaidOut.{one_laid_out}
use Rattle.cert_semantics.proofs.nodes.one_grid_or_leaf_each.Goals as goal

pub returns : goal.returns
returns c = one_laid_out
