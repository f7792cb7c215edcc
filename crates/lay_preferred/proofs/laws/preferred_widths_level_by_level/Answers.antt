use Rattle.lay_preferred.proofs.Levels.{of-replaced, of-inline, of-blocks}
use Rattle.lay_preferred.proofs.laws.preferred_widths_level_by_level.Goals as goal

pub returns-clause-replaced : goal.returns-clause-replaced
returns-clause-replaced args tree w at l e = of-replaced tree w at l e

pub returns-clause-inline : goal.returns-clause-inline
returns-clause-inline args tree w at l e = of-inline tree w at l e

pub returns-clause-blocks : goal.returns-clause-blocks
returns-clause-blocks args tree w at l e = of-blocks tree w at l e
