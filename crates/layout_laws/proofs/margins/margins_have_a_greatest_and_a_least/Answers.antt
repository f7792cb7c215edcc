use Rattle.layout_laws.proofs.Collapsed.{has_most, has_least}
use Rattle.layout_laws.proofs.margins.margins_have_a_greatest_and_a_least.Goals as goal

pub returns-clause-most : goal.returns-clause-most
returns-clause-most c = has_most

pub returns-clause-least : goal.returns-clause-least
returns-clause-least c = has_least
