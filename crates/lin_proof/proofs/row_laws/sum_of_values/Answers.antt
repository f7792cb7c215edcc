use Rattle.lin_proof.proofs.Values.{value-plus}
use Rattle.lin_proof.proofs.row_laws.sum_of_values.Goals as goal

pub returns : goal.returns
returns c = value-plus
