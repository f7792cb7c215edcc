use Rattle.std.proofs.Common.{ap}
use Rattle.css_semantics.specs.CascadeOrder.{cascade_cmp, greatest, of_prop}
use Rattle.css_semantics.proofs.Greatest.{cascade_total, greatest_is, is_greatest, nothing_greatest}
use Rattle.css_semantics.proofs.winners.one_winner.Goals as goal

pub returns-clause-winner : goal.returns-clause-winner
returns-clause-winner c = λ p all a. (greatest_is cascade_total (of_prop p all) a, is_greatest cascade_total (of_prop p all) a)

pub returns-clause-none : goal.returns-clause-none
returns-clause-none c = λ p all. (nothing_greatest cascade_cmp (of_prop p all), λ e. ap (greatest cascade_cmp) e)
