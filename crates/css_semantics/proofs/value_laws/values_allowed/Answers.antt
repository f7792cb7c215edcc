use Rattle.css_semantics.proofs.Allowed.{declared_allowed}
use Rattle.css_semantics.proofs.value_laws.values_allowed.Goals as goal

pub returns : goal.returns
returns c = λ name text settings h. declared_allowed name h.tokens settings h.answers
