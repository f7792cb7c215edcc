use Rattle.std.proofs.Common.{◌≡◌, drop}
use Rattle.std.specs.List.{list_any}
use Rattle.layout_semantics.specs.Segments.{is_forced}
use Rattle.lay_line.specs.Items.{bare_of}
use Rattle.lay_line.proofs.loads.has_forced.Given as goal

abbrev pub invariant-loop-piece : goal.invariant-loop-piece
invariant-loop-piece g l = list_any is_forced (bare_of (drop l.piece-index l.pieces)) ≡ list_any is_forced (bare_of l.pieces)
