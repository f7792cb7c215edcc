use Rattle.std.proofs.Common.{ap}
use Rattle.css_semantics.specs.CascadeOrder.{greatest, spec_cmp}
use Rattle.css_semantics.proofs.Greatest.{spec_total, greatest_is, is_greatest, nothing_greatest}
use Rattle.css_semantics.proofs.winners.one_specificity.Goals as goal

pub returns-clause-greatest : goal.returns-clause-greatest
returns-clause-greatest c = λ specs s. (greatest_is spec_total specs s, is_greatest spec_total specs s)

pub returns-clause-none : goal.returns-clause-none
returns-clause-none c = λ specs. (nothing_greatest spec_cmp specs, λ e. ap (greatest spec_cmp) e)
