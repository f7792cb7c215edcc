use Rattle.cert_semantics.proofs.PathFacts.{entailed_holds}
use Rattle.cert_semantics.proofs.facts.a_lemma_holds_on_its_path.Goals as goal

pub returns : goal.returns
returns c = entailed_holds
