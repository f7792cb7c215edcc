use Rattle.std.proofs.Common.{Ok, Err, refl, sym, ap, subst, arith}
use Rattle.viz_base.specs.declared.jobs.Job.{Job}
use Rattle.cert_semantics.specs.Axes.{axis_count}
use Rattle.cert_semantics.specs.Nodes.{nodes_from}
use Rattle.cert_check.specs.declared.walk.Stop.{Stop}
use Rattle.cert_semantics.specs.Paths.{root}
use Rattle.cert_check.specs.steps.Descent.{path_of}
use Rattle.cert_check.specs.steps.Ways.{path_at}
use Rattle.cert_check.specs.steps.Tells.{Tells}
use Rattle.cert_check.specs.Verdicts.{IsCause}
use Rattle.cert_check.proofs.PlainUnits.{units_are_plain}
use Rattle.cert_check.proofs.Tellings.{same_digest, count_is, accepts, rejects, cause_not_right}
use Rattle.cert_check.proofs.entry.check.Goals as goal

pub check_node-requires-clause-few : goal.check_node-requires-clause-few
check_node-requires-clause-few c =
    let same = count_is c.args.cert.now.root (root c.args.job.now.form) in
    let few = c.requires.few in
    let axes = ap (λ (j : Job). axis_count j.form) c.in_ok-descent.ensures.job in
    omega arith

pub returns-in-Ok-clause-verdict : goal.returns-in-Ok-clause-verdict
returns-in-Ok-clause-verdict c =
    let s = c.in_ok-descent.descent in
    let told = subst (λ (j : Job). Tells j (nodes_from c.args.cert.now.root (path_at s)) 0 (Ok c.in-Ok.field-0)) c.in_ok-descent.ensures.job c.in-Ok.ensures.tells in
    accepts c.args.job.now c.args.cert.now (path_at s) c.in-Ok.field-0 ((λ i. path_of (c.in_ok-descent.ensures.job i).form (c.in_ok-descent.ensures.above i)), same_digest c.args.cert.now.job c.args.job.now.digest c.if-ne.ensures, told)

pub returns-in-Ok-clause-exact : goal.returns-in-Ok-clause-exact
returns-in-Ok-clause-exact c = λ plain. (λ e. (returns-in-Ok-clause-verdict c).right, λ r. refl)

pub returns-in-Ok-clause-units : goal.returns-in-Ok-clause-units
returns-in-Ok-clause-units c = λ text spelled are. (λ e. (returns-in-Ok-clause-verdict c).right, λ r. refl)

pub returns-in-Ok-clause-holds : goal.returns-in-Ok-clause-holds
returns-in-Ok-clause-holds c = λ e. (returns-in-Ok-clause-verdict c).holds

pub returns-clause-verdict : goal.returns-clause-verdict
returns-clause-verdict c =
    let s = c.in_ok-descent.descent in
    let told = subst (λ (j : Job). Tells j (nodes_from c.args.cert.now.root (path_at s)) 0 (Err c.in-Err-Rejected.field-0)) c.in_ok-descent.ensures.job c.in-Err-Rejected.ensures.tells in
    let named = subst (λ (stop : Stop). Tells c.args.job.now (nodes_from c.args.cert.now.root (path_at s)) 0 (Err stop)) c.in-Err-Rejected.field-0-is told in
    let found = rejects c.args.job.now c.args.cert.now (path_at s) c.in-Err-Rejected.reject ((λ i. path_of (c.in_ok-descent.ensures.job i).form (c.in_ok-descent.ensures.above i)), same_digest c.args.cert.now.job c.args.job.now.digest c.if-ne.ensures, named) in
    subst (IsCause c.args.job.now c.args.cert.now) (sym c.into_inner.ensures) found

pub returns-clause-exact : goal.returns-clause-exact
returns-clause-exact c = λ plain. (λ e. absurd (cc), λ right. absurd (cause_not_right c.args.job.now c.args.cert.now c.into_inner.result (returns-clause-verdict c) plain right))

pub returns-clause-units : goal.returns-clause-units
returns-clause-units c = λ text spelled are.
    let plain = units_are_plain c.args.job.now c.args.cert.now text spelled are in
    (λ e. absurd (cc), λ right. absurd (cause_not_right c.args.job.now c.args.cert.now c.into_inner.result (returns-clause-verdict c) plain right))
