use Rattle.lin_proof.proofs.Sound.{entailment_law}
use Rattle.lin_proof.proofs.laws.entailment_is_sound.Goals as goal

pub returns : goal.returns
returns c = entailment_law
