use Rattle.std.proofs.Common.{◌≡◌, drop}
use Rattle.std.specs.List.{list_any}
use Rattle.lay_line.specs.Items.{bare_of}
use Rattle.lay_line.specs.steps.Words.{makes}
use Rattle.lay_line.proofs.loads.has_maker.Given as goal

abbrev pub invariant-loop-piece : goal.invariant-loop-piece
invariant-loop-piece g l = list_any (makes l.tree) (bare_of (drop l.piece-index l.pieces)) ≡ list_any (makes l.tree) (bare_of l.pieces)
