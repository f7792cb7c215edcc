use Rattle.cert_semantics.proofs.Sound.{first_fault_or_none, one_first_fault}
use Rattle.cert_semantics.proofs.shapes.one_first_fault.Goals as goal

pub returns-clause-some : goal.returns-clause-some
returns-clause-some c = first_fault_or_none

pub returns-clause-one : goal.returns-clause-one
returns-clause-one c = one_first_fault
