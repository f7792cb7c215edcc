use Rattle.layout_laws.proofs.LineStates.{lines-in-hold}
use Rattle.layout_laws.proofs.lines.each_line_is_no_higher_than_the_tallest.Goals as goal

pub returns : goal.returns
returns args c y least floats = (lines-in-hold c y least floats).low
