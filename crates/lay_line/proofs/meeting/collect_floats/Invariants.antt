use Rattle.std.proofs.Common.{◌≡◌, ◌++◌, drop}
use Rattle.layout_semantics.specs.InlineContent.{float_boxes}
use Rattle.lay_line.specs.Items.{bare_of}
use Rattle.lay_line.proofs.meeting.collect_floats.Given as goal

abbrev pub invariant-loop-piece : goal.invariant-loop-piece
invariant-loop-piece g l = l.floats.items ++ float_boxes (bare_of (drop l.piece-index l.pieces)) ≡ float_boxes (bare_of l.pieces)
