use Rattle.layout_laws.proofs.PlacedFloats.{of_lines}
use Rattle.layout_laws.proofs.contexts.floats_of_lines_are_placed_by_the_rules.Goals as goal

pub returns : goal.returns
returns c = of_lines
