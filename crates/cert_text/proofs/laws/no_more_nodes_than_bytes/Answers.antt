use Rattle.cert_text.proofs.NodeCounts.{count_bound}
use Rattle.cert_text.proofs.laws.no_more_nodes_than_bytes.Goals as goal

pub returns : goal.returns
returns c = λ cert text h. count_bound cert text h
