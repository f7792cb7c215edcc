use Rattle.std.proofs.Common.{length, ◌+◌, ◌-◌, ◌≡◌, ◌≤◌, ◌<◌, Some}
use Rattle.std.specs.Prelude.{slice_get}
use Rattle.viz_tables.specs.declared.words.Word.{Word}
use Rattle.viz_tables.specs.Joins.{EndsOther, IsSaid}
use Rattle.viz_tables.specs.Words.{AreLines}
use Rattle.viz_tables.proofs.lining.joined.Given as goal

abbrev pub invariant-loop-from : goal.invariant-loop-from
invariant-loop-from l = record {
  most : l.from ≤ length l.words;
  lines : AreLines (IsSaid l.words l.wl) l.wl (l.wl + l.from) l.lines;
  other : (next : Word) → l.from < length l.words → slice_get l.words l.from ≡ Some next → EndsOther l.lines next;
}

abbrev pub decreases-loop-from : goal.decreases-loop-from
decreases-loop-from l = length l.words - l.from
