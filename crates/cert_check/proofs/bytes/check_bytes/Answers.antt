use Rattle.std.proofs.Common.{refl, subst}
use Rattle.cert_check.specs.Bytes.{IsFront}
use Rattle.cert_check.proofs.Findings.{at_end_is, exactly, exact_units, accepted_holds}
use Rattle.cert_check.proofs.bytes.check_bytes.Goals as goal

pub returns-in-Judged-clause-verdict : goal.returns-in-Judged-clause-verdict
returns-in-Judged-clause-verdict c =
    let front = subst (IsFront c.args.job.now c.args.bytes.now) c.in-Judged.is c.in_ok-verdict.ensures in
    at_end_is c.args.job.now c.args.bytes.now c.in-Judged.verdict c.in-Judged.length _ c.at_end.result front refl c.at_end.ensures.behind c.at_end.ensures.all

pub returns-in-Judged-clause-exact : goal.returns-in-Judged-clause-exact
returns-in-Judged-clause-exact c = exactly c.args.job.now c.args.bytes.now c.at_end.result (returns-in-Judged-clause-verdict c)

pub returns-in-Judged-clause-units : goal.returns-in-Judged-clause-units
returns-in-Judged-clause-units c = exact_units c.args.job.now c.args.bytes.now c.at_end.result (returns-in-Judged-clause-verdict c)

pub returns-in-Judged-clause-holds : goal.returns-in-Judged-clause-holds
returns-in-Judged-clause-holds c = accepted_holds c.args.job.now c.args.bytes.now c.at_end.result (returns-in-Judged-clause-verdict c)
