use Rattle.lin_proof.proofs.Values.{value-cut}
use Rattle.lin_proof.proofs.row_laws.cut_holds_as_well.Goals as goal

pub returns : goal.returns
returns c = value-cut
