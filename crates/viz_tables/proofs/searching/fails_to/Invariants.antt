use Rattle.std.proofs.Common.{◌-◌, ◌≡◌, ◌≤◌, ℕ, false}
use Rattle.cert_check.specs.Truths.{is_true_at}
use Rattle.viz_tables.specs.Searches.{at_width}
use Rattle.viz_tables.proofs.searching.fails_to.Given as goal

abbrev pub invariant-loop-w : goal.invariant-loop-w
invariant-loop-w l = (l.world.w ≤ l.w) × (l.w ≤ l.job.range.wh) × ((x : ℕ) → l.world.w ≤ x → x ≤ l.w → is_true_at l.job (at_width x l.world) ≡ false)

abbrev pub decreases-loop-w : goal.decreases-loop-w
decreases-loop-w l = l.job.range.wh - l.w
