use Rattle.sym_calc.proofs.Along.{sound_is_known}
use Rattle.sym_calc.proofs.laws.sound_paths_are_known.Goals as goal

pub returns : goal.returns
returns c = sound_is_known
