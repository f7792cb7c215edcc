use Rattle.std.proofs.Common.{◌∙◌, ap}
use Rattle.viz_base.specs.Formulas.{has_small_terms, is_bound_in}
use Rattle.page_build.specs.Renumbering.{number_in}
use Rattle.page_build.proofs.Numbers.{renumbered-bound, renumbered-small}
use Rattle.page_build.proofs.formulas.formula_of.Goals as goal

pub returns-clause-bound : goal.returns-clause-bound
returns-clause-bound c =
    ap (λ f. is_bound_in f 0) c.in_ok-renumbered.ensures ∙ (renumbered-bound (number_in c.args.from.now) c.in_ok-formula.formula ∙ c.in_ok-formula.ensures.bound)

pub returns-clause-small : goal.returns-clause-small
returns-clause-small c =
    ap has_small_terms c.in_ok-renumbered.ensures ∙ (renumbered-small (number_in c.args.from.now) c.in_ok-formula.formula ∙ c.in_ok-formula.ensures.small)
