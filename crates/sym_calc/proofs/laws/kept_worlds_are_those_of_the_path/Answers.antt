use Rattle.sym_calc.proofs.Along.{kept_are_those, open_are_on}
use Rattle.sym_calc.proofs.laws.kept_worlds_are_those_of_the_path.Goals as goal

pub returns : goal.returns
returns c = record { kept = kept_are_those; opens = open_are_on }
