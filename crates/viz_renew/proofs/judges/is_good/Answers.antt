use Rattle.std.proofs.Common.{Result, Err, subst}
use Rattle.cert_check.specs.declared.walk.Stop.{Stop}
use Rattle.cert_check.specs.steps.Tells.{Judges}
use Rattle.cert_check.proofs.Judging.{is_judged}
use Rattle.viz_renew.proofs.Marks.{bad_found}
use Rattle.viz_renew.proofs.judges.is_good.Goals as goal

pub returns-in-Ok : goal.returns-in-Ok
returns-in-Ok c = λ job node n h. is_judged job node n c.in-Ok.field-0 (subst (λ (r : Result (Unit {0}) Stop). Judges job node n r) c.in-Ok.is h)

pub returns-in-Err-Rejected : goal.returns-in-Err-Rejected
returns-in-Err-Rejected c = λ job node n h.
    let told = subst (λ (r : Result (Unit {0}) Stop). Judges job node n r) c.in-Err-Rejected.is h in
    bad_found (Unit {0}) job node n c.in-Err-Rejected._reject (subst (λ (stop : Stop). Judges {A = Unit {0}} job node n (Err stop)) c.in-Err-Rejected.field-0-is told)
