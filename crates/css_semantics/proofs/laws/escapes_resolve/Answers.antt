use Rattle.css_semantics.proofs.EscapeLemmas.{resolves}
use Rattle.css_semantics.proofs.laws.escapes_resolve.Goals as goal

pub returns : goal.returns
returns c = resolves
