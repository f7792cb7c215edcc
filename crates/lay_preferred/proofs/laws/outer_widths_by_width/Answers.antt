use Rattle.lay_preferred.proofs.OuterWidths.{outer-given, outer-inside}
use Rattle.lay_preferred.proofs.laws.outer_widths_by_width.Goals as goal

pub returns-clause-given : goal.returns-clause-given
returns-clause-given args tree w at e = outer-given tree w at e

pub returns-clause-inside : goal.returns-clause-inside
returns-clause-inside args tree w at e = outer-inside tree w at e
