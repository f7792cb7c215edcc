use Rattle.lay_line.proofs.Lined.{lined-is}
use Rattle.lay_line.proofs.laws.lines_of_measured_items_are_the_lines.Goals as goal

pub returns : goal.returns
returns args c y least floats = lined-is c y least floats
