use Rattle.css_semantics.specs.CascadeReading.{IsRuleset}
use Rattle.css_cascade.proofs.reading.ruleset_at.Goals as goal

pub returns-in-None : goal.returns-in-None
returns-in-None c = IsRuleset.nothing_there c.in-None.ensures
