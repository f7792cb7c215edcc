use Rattle.logic_semantics.proofs.Findings.{blame-Forall, blame-And_first, blame-And_second, blame-Implies, blame-Const, blame-Exists, blame-Or, blame-Not, blame-Cmp, blame-Overlap, blame-Same}
use Rattle.logic_semantics.proofs.blame_of_false.Goals as goal

pub returns-clause-universal : goal.returns-clause-universal
returns-clause-universal c = blame-Forall

pub returns-clause-conjunction : goal.returns-clause-conjunction
returns-clause-conjunction c = λ scene a b names. (blame-And_first scene a b names, blame-And_second scene a b names)

pub returns-clause-implication : goal.returns-clause-implication
returns-clause-implication c = blame-Implies

pub returns-clause-others : goal.returns-clause-others
returns-clause-others c = record {
  constants = blame-Const;
  exists = blame-Exists;
  disjunctions = blame-Or;
  negations = blame-Not;
  comparisons = blame-Cmp;
  overlaps = blame-Overlap;
  sames = blame-Same;
}
