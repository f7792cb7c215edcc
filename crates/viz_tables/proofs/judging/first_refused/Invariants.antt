use Rattle.std.proofs.Common.{take}
use Rattle.viz_tables.specs.Tables.{AreTaken}
use Rattle.viz_tables.proofs.judging.first_refused.Given as goal

abbrev pub invariant-loop-at : goal.invariant-loop-at
invariant-loop-at l = AreTaken l.job (take l.at l.rules)
