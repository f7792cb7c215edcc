use Rattle.std.proofs.Common.{◌-◌, ◌≡◌, ◌≤◌, false}
use Rattle.cert_check.specs.Truths.{is_true_at}
use Rattle.viz_tables.specs.Searches.{at_width}
use Rattle.viz_tables.proofs.searching.fails_from.Given as goal

abbrev pub invariant-loop-w : goal.invariant-loop-w
invariant-loop-w l = (l.first ≤ l.w) × (l.w ≤ l.world.w) × (is_true_at l.job (at_width l.w l.world) ≡ false)

abbrev pub decreases-loop-w : goal.decreases-loop-w
decreases-loop-w l = l.w - l.first
