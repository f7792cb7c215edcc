use Rattle.cert_check.proofs.Texts.{few}
use Rattle.cert_check.proofs.laws.no_more_nodes_than_bytes.Goals as goal

pub returns : goal.returns
returns c = few
