use Rattle.cert_semantics.proofs.Sound.{shaped_is_sound}
use Rattle.cert_semantics.proofs.shapes.steps_below_shaped_nodes_are_sound.Goals as goal

pub returns : goal.returns
returns c = shaped_is_sound
