use Rattle.cert_semantics.proofs.Ends.{one_end}
use Rattle.cert_semantics.proofs.nodes.one_end_each.Goals as goal

pub returns : goal.returns
returns c = one_end
