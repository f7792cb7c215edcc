use Rattle.std.proofs.Common.{sym, subst}
use Rattle.css_value.specs.Grammars.{IsShorthand}
use Rattle.css_value.proofs.GrammarLemmas.{shorthand_same}
use Rattle.css_value.proofs.laws.shorthands_by_grammar.Goals as goal

pub returns : goal.returns
returns c = λ s ps a. (λ e. subst (IsShorthand s ps) (sym e) (shorthand_same s ps).0, (shorthand_same s ps).1 a)
