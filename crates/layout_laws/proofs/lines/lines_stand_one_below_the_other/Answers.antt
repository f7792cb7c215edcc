use Rattle.layout_laws.proofs.LineStates.{lines-in-hold}
use Rattle.layout_laws.proofs.lines.lines_stand_one_below_the_other.Goals as goal

pub returns : goal.returns
returns args c y least floats = (lines-in-hold c y least floats).stacked
