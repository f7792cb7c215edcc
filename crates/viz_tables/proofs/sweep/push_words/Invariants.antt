use Rattle.std.proofs.Common.{◌≡◌, ◌++◌, replicate}
use Rattle.viz_tables.proofs.sweep.push_words.Given as goal

abbrev pub invariant-loop-pushed : goal.invariant-loop-pushed
invariant-loop-pushed l = l.words ≡ l.initial.words ++ replicate l._pushed l.word
