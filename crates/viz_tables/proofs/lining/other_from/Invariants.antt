use Rattle.std.proofs.Common.{length, ◌-◌, ◌≡◌, ◌≤◌, ◌<◌, ℕ}
use Rattle.std.specs.Prelude.{slice_get}
use Rattle.viz_tables.proofs.lining.other_from.Given as goal

abbrev pub invariant-loop-at : goal.invariant-loop-at
invariant-loop-at l = (l.from < l.at) × (l.at ≤ length l.words) × ((at : ℕ) → l.from ≤ at → at < l.at → slice_get l.words at ≡ slice_get l.words l.from)

abbrev pub decreases-loop-at : goal.decreases-loop-at
decreases-loop-at l = length l.words - l.at
