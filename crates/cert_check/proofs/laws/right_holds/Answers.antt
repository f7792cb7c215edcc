use Rattle.cert_check.proofs.Causes.{right_holds}
use Rattle.cert_check.proofs.laws.right_holds.Goals as goal

pub returns : goal.returns
returns c = right_holds
