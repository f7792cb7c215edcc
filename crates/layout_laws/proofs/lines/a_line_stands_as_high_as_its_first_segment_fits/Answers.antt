use Rattle.layout_laws.proofs.LineTops.{line_top-stands, line_top-highest}
use Rattle.layout_laws.proofs.lines.a_line_stands_as_high_as_its_first_segment_fits.Goals as goal

pub returns-clause-below : goal.returns-clause-below
returns-clause-below args c floats y tall width = (line_top-stands c floats y tall width).0

pub returns-clause-stands : goal.returns-clause-stands
returns-clause-stands args c floats y tall width = (line_top-stands c floats y tall width).1

pub returns-clause-highest : goal.returns-clause-highest
returns-clause-highest args c floats y tall width top low high = line_top-highest c floats y tall width top low high
