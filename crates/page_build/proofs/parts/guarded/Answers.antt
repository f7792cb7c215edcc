use Rattle.std.proofs.Common.{◌≡◌, ◌∙◌, ap, subst}
use Rattle.std.specs.Prelude.{IfOk}
use Rattle.viz_base.specs.Formulas.{has_small_terms, is_bound_in}
use Rattle.page_build.specs.Renumbering.{number_in}
use Rattle.page_build.proofs.Numbers.{renumbered-bound, renumbered-small}
use Rattle.page_build.proofs.parts.guarded.Goals as goal

pub returns-clause-bound : goal.returns-clause-bound
returns-clause-bound c =
    let bound = ap (λ f. is_bound_in f 0) c.in_ok-over_grown.ensures ∙ (renumbered-bound (number_in c.args.from.now) c.args.formula.now ∙ c.requires.bound) in
    subst (λ given. IfOk c.guard.result (λ all. is_bound_in all 0 ≡ given)) bound c.guard.ensures.bound

pub returns-clause-small : goal.returns-clause-small
returns-clause-small c =
    let small = ap has_small_terms c.in_ok-over_grown.ensures ∙ (renumbered-small (number_in c.args.from.now) c.args.formula.now ∙ c.requires.small) in
    subst (λ given. IfOk c.guard.result (λ all. has_small_terms all ≡ given)) small c.guard.ensures.small
