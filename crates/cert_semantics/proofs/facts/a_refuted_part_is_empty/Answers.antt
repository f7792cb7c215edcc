use Rattle.cert_semantics.proofs.PathFacts.{refuted_is_empty}
use Rattle.cert_semantics.proofs.facts.a_refuted_part_is_empty.Goals as goal

pub returns : goal.returns
returns c = refuted_is_empty
