use Rattle.css_semantics.proofs.Overriding.{author_over, important_over}
use Rattle.css_semantics.proofs.winners.important_overrides.Goals as goal

pub returns-clause-normal : goal.returns-clause-normal
returns-clause-normal c = important_over

pub returns-clause-default : goal.returns-clause-default
returns-clause-default c = author_over
