use Rattle.css_cascade.proofs.OnePseudoCascade.{one_pseudo_cascade}
use Rattle.css_cascade.proofs.laws.one_pseudo_cascade.Goals as goal

pub returns : goal.returns
returns c = one_pseudo_cascade
