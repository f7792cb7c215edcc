use Rattle.std.proofs.Common.{◌≡◌, ◌++◌, drop}
use Rattle.viz_tables.specs.Joins.{both_words}
use Rattle.viz_tables.proofs.joining.both_words.Given as goal

abbrev pub invariant-loop-at : goal.invariant-loop-at
invariant-loop-at l = l.words ++ both_words (drop l.at l.a) (drop l.at l.b) ≡ both_words l.a l.b
