use Rattle.std.proofs.Common.{◌∙◌, [], ◌∷◌, Result, Err, ap, subst}
use Rattle.std.proofs.lemmas.Result.{err_from_is_err_and}
use Rattle.cert_check.specs.declared.walk.Stop.{Stop}
use Rattle.cert_check.specs.steps.Tells.{Judges}
use Rattle.cert_check.proofs.Tellings.{tells_one, tells_head}
use Rattle.cert_check.proofs.Turns.{told_mem}
use Rattle.cert_check.proofs.visits.Visits.after_end.Goals as goal

pub returns-in_err-turn-in-Ok-clause-tells : goal.returns-in_err-turn-in-Ok-clause-tells
returns-in_err-turn-in-Ok-clause-tells c =
    let p = err_from_is_err_and c.from_residual.result c.from_residual.ensures.1 in
    λ job node h. told_mem job (node ∷ []) c.args.number c.from_residual.result (p.1 ∙ ap Err p.2)

pub returns-in_ok-turn-in-Ok-clause-tells : goal.returns-in_ok-turn-in-Ok-clause-tells
returns-in_ok-turn-in-Ok-clause-tells c = λ job node h.
    tells_one job node c.args.number c.in_ok-turn-in-Ok.field-0 c.in-Ok.field-0 (subst (λ (r : Result (Unit {0}) Stop). Judges job node c.args.number r) c.in-Ok.is h)

pub returns-in-Err-clause-tells : goal.returns-in-Err-clause-tells
returns-in-Err-clause-tells c = λ job node h.
    tells_head job node [] c.args.number c.in-Err.stop (subst (λ (r : Result (Unit {0}) Stop). Judges job node c.args.number r) c.in-Err.is h)
