use Rattle.cert_check.proofs.Causes.{one_verdict}
use Rattle.cert_check.proofs.laws.one_verdict_each.Goals as goal

pub returns : goal.returns
returns c = one_verdict
