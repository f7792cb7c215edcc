use Rattle.std.proofs.Common.{◌≡◌, ◌+◌, ◌-◌, length}
use Rattle.viz_base.specs.Worlds.{IsInRange}
use Rattle.cert_check.specs.Truths.{is_true_at}
use Rattle.viz_tables.specs.Words.{AreRight}
use Rattle.viz_tables.proofs.sweep.swept.Given as goal

abbrev pub invariant-loop-words : goal.invariant-loop-words
invariant-loop-words l = record {
  same : l.job ≡ l.initial.job;
  inside : IsInRange l.initial.job.range l.start;
  count : l.initial.job.range.wl + length l.words ≡ l.start.w;
  right : AreRight l.initial.job.range (is_true_at l.initial.job) l.turns l.initial.job.range.wl l.words;
}

abbrev pub decreases-loop-words : goal.decreases-loop-words
decreases-loop-words l = l.initial.job.range.wh - l.start.w
