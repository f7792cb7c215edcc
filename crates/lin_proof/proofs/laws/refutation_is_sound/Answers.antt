use Rattle.lin_proof.proofs.Sound.{law}
use Rattle.lin_proof.proofs.laws.refutation_is_sound.Goals as goal

pub returns : goal.returns
returns c = law
