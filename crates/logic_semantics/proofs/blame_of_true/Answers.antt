use Rattle.logic_semantics.proofs.Findings.{blame-true}
use Rattle.logic_semantics.proofs.blame_of_true.Goals as goal

pub returns : goal.returns
returns c = blame-true
