use Rattle.cert_check.proofs.Parts.{unit_is_unit_row}
use Rattle.cert_check.proofs.laws.unit_rows.Goals as goal

pub returns : goal.returns
returns c = unit_is_unit_row
