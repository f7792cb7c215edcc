use Rattle.std.proofs.Common.{◌≡◌, ◌+◌, ◌≤◌, drop}
use Rattle.lay_line.specs.Items.{bare_of}
use Rattle.lay_line.specs.steps.Loading.{ahead_by}
use Rattle.lay_line.specs.steps.Words.{makes}
use Rattle.lay_line.proofs.loads.ahead.Given as goal

abbrev pub invariant-loop-piece : goal.invariant-loop-piece
invariant-loop-piece g l = (l.count + ahead_by (makes l.tree) (bare_of (drop l.piece-index l.pieces)) ≡ ahead_by (makes l.tree) (bare_of l.pieces)) × (l.count ≤ l.piece-index)
