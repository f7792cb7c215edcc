use Rattle.std.proofs.Common.{arith}
use Rattle.std.proofs.lemmas.Int.{ints}
use Rattle.lin_proof.proofs.Values.{value-denied}
use Rattle.lin_proof.proofs.row_laws.denial_holds_elsewhere.Goals as goal

pub returns-clause-value : goal.returns-clause-value
returns-clause-value c = value-denied

pub returns-clause-one : goal.returns-clause-one
returns-clause-one c = λ f v. (λ h. omega (arith, ints, value-denied f v), λ h. omega (arith, ints, value-denied f v))
