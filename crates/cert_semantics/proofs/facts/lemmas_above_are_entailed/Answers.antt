use Rattle.cert_semantics.proofs.Sound.{reasoned_is_entailed}
use Rattle.cert_semantics.proofs.facts.lemmas_above_are_entailed.Goals as goal

pub returns : goal.returns
returns c = reasoned_is_entailed
