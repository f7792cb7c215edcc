use Rattle.std.proofs.Common.{take}
use Rattle.viz_tables.specs.Tables.{IsTable}
use Rattle.viz_tables.proofs.tables.surveys_of.Given as goal

abbrev pub invariant-loop-at : goal.invariant-loop-at
invariant-loop-at l = IsTable l.job l.turns (take l.at l.rules) l.output.items l.undecided
