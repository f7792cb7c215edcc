use Rattle.css_semantics.proofs.Hiding.{standings_agree}
use Rattle.css_semantics.proofs.winners.hidden_by_display.Goals as goal

pub returns : goal.returns
returns c = λ nodes rulesets page standings winners come n s e. (standings_agree page come).1 n s e
