use Rattle.std.proofs.Common.{◌≡◌, drop}
use Rattle.lay_line.specs.Items.{bare_of}
use Rattle.lay_line.specs.steps.Loading.{opened_by}
use Rattle.lay_line.proofs.loads.opened_past.Given as goal

abbrev pub invariant-loop-piece : goal.invariant-loop-piece
invariant-loop-piece g l = opened_by l.open.items (bare_of (drop l.piece-index l.pieces)) ≡ opened_by l.initial.open.items (bare_of l.pieces)
