use Rattle.std.proofs.Common.{◌∙◌, sym, ap, subst}
use Rattle.std.proofs.lemmas.Result.{IfOk-weaker}
use Rattle.std.specs.Option.{option_copied}
use Rattle.vis_truth.specs.Premises.{IsLeftAt}
use Rattle.cert_check.specs.Truths.{rendering_of}
use Rattle.sym_calc.proofs.States.{grows_then}
use Rattle.cert_check.proofs.truths.truth_over.Goals as goal

pub returns-in-Ok-Some-clause-grows : goal.returns-in-Ok-Some-clause-grows
returns-in-Ok-Some-clause-grows g c = grows_then _ _ _ c.conclusion.ensures.grows c.laid_out.ensures.grows

pub returns-in-Ok-Some-clause-value : goal.returns-in-Ok-Some-clause-value
returns-in-Ok-Some-clause-value g c =
    let job = c.args.job.now in
    IfOk-weaker c.laid_out.result _ _
    (λ b h e o.
    let left = subst (IsLeftAt e.world job.formula) (ap option_copied c.in-Ok-Some.field-0-is) (c.in-Ok-Some.ensures.value e (c.laid_out.ensures.grows.closes e o)) in
    h e o ∙ sym (left (rendering_of job e.world)))
    c.laid_out.ensures.value

pub returns-in-Ok-None-clause-value : goal.returns-in-Ok-None-clause-value
returns-in-Ok-None-clause-value g c = λ e o.
    let job = c.args.job.now in
    let left = subst (IsLeftAt e.world job.formula) (ap option_copied c.in-Ok-None.field-0-is) (c.in-Ok-None.ensures.value e o) in
    sym (left (rendering_of job e.world))
