use Rattle.lay_line.proofs.Lays.{lines-are}
use Rattle.lay_line.proofs.laws.lines_of_one_pass_are_the_lines.Goals as goal

pub returns : goal.returns
returns args c y least floats = lines-are c y least floats
