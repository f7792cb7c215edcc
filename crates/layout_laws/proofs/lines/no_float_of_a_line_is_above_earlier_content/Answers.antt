use Rattle.layout_laws.proofs.LineStates.{lines-in-hold}
use Rattle.layout_laws.proofs.lines.no_float_of_a_line_is_above_earlier_content.Goals as goal

pub returns : goal.returns
returns args c y least floats = (lines-in-hold c y least floats).more
