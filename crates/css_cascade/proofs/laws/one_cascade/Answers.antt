use Rattle.css_cascade.proofs.OneCascade.{one_cascade}
use Rattle.css_cascade.proofs.laws.one_cascade.Goals as goal

pub returns : goal.returns
returns c = one_cascade
