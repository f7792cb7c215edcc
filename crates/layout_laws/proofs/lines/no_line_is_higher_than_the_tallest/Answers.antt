use Rattle.layout_laws.proofs.LineStates.{height-most}
use Rattle.layout_laws.proofs.lines.no_line_is_higher_than_the_tallest.Goals as goal

pub returns : goal.returns
returns args c boxes each = height-most c boxes each
