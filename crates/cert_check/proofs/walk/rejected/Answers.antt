use Rattle.std.proofs.Common.{Err, refl, sym, subst}
use Rattle.cert_check.specs.declared.walk.Stop.TheVariants.{Rejected}
use Rattle.cert_check.specs.Leaves.{node_in}
use Rattle.cert_check.specs.steps.Tells.{Judges}
use Rattle.cert_check.proofs.Judging.{judged_bad}
use Rattle.cert_check.proofs.walk.rejected.Goals as goal

pub returns : goal.returns
returns c = λ job node bad.
    subst (λ reject. Judges {A = Unit {0}} job node (node_in c.args.reject) (Err (Rejected reject))) (sym c.in_ok-new.ensures)
    (judged_bad (Unit {0}) job node (node_in c.args.reject) c.args.reject refl bad)
