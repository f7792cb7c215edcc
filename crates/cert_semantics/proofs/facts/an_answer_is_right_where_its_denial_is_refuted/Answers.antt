use Rattle.cert_semantics.proofs.PathFacts.{answers_are_right}
use Rattle.cert_semantics.proofs.facts.an_answer_is_right_where_its_denial_is_refuted.Goals as goal

pub returns : goal.returns
returns c = answers_are_right
