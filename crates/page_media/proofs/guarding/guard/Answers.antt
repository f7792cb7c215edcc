use Rattle.std.proofs.Common.{◌∙◌, ap, sym, arith}
use Rattle.viz_base.specs.Formulas.{has_small_terms, is_bound_in}
use Rattle.viz_base.specs.declared.formulas.Formula.{Formula}
use Rattle.page_media.proofs.GuardTruths.{guarded-bound, guarded-small}
use Rattle.page_media.proofs.Walks.{guarded-end}
use Rattle.page_media.proofs.guarding.guard.Goals as goal

pub returns-clause-given : goal.returns-clause-given
returns-clause-given c =
    sym (guarded-end c.as_slice-features.result.now c.as_slice-signs.result.now c.loop-at.all c.loop-at.at (omega arith)) ∙ c.loop-at.invariant

pub returns-clause-bound : goal.returns-clause-bound
returns-clause-bound c =
    let given = sym (guarded-end c.as_slice-features.result.now c.as_slice-signs.result.now c.loop-at.all c.loop-at.at (omega arith)) ∙ c.loop-at.invariant in
    ap (λ (f : Formula). is_bound_in f 0) given ∙ guarded-bound c.args.features.now c.args.signs.now c.args.formula

pub returns-clause-small : goal.returns-clause-small
returns-clause-small c =
    let given = sym (guarded-end c.as_slice-features.result.now c.as_slice-signs.result.now c.loop-at.all c.loop-at.at (omega arith)) ∙ c.loop-at.invariant in
    ap has_small_terms given ∙ guarded-small c.args.features.now c.args.signs.now c.args.formula
