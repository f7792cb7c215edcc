use Rattle.cert_check.proofs.PlainUnits.{units_are_plain}
use Rattle.cert_check.proofs.laws.units_are_plain.Goals as goal

pub returns : goal.returns
returns c = units_are_plain
