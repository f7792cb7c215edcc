use Rattle.std.proofs.Common.{◌+◌, [], Result, subst}
use Rattle.cert_check.specs.declared.walk.Stop.{Stop}
use Rattle.cert_check.specs.steps.Tells.{Judges}
use Rattle.cert_check.proofs.Tellings.{tells_one, tells_head}
use Rattle.cert_check.proofs.walk.after_end.Goals as goal

pub returns-in-Ok-clause-tells : goal.returns-in-Ok-clause-tells
returns-in-Ok-clause-tells c = λ job node h.
    tells_one job node c.args.number (c.args.number + 1) c.in-Ok.field-0 (subst (λ (r : Result (Unit {0}) Stop). Judges job node c.args.number r) c.in-Ok.is h)

pub returns-in-Err-clause-tells : goal.returns-in-Err-clause-tells
returns-in-Err-clause-tells c = λ job node h.
    tells_head job node [] c.args.number c.in-Err.stop (subst (λ (r : Result (Unit {0}) Stop). Judges job node c.args.number r) c.in-Err.is h)
