use Rattle.std.proofs.Common.{refl}
use Rattle.layout_laws.proofs.baselines.lines_in_flow_give_the_baseline.Goals as goal

pub returns-clause-lines : goal.returns-clause-lines
returns-clause-lines c tree w inside cb top p b e = rw e refl

pub returns-clause-float : goal.returns-clause-float
returns-clause-float c tree w inside cb top p k e = rw e refl

pub returns-clause-replaced : goal.returns-clause-replaced
returns-clause-replaced c tree w inside cb top p k f r = rw (f, r) refl
