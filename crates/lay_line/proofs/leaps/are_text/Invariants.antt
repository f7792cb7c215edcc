use Rattle.std.proofs.Common.{◌≡◌, drop}
use Rattle.std.specs.List.{list_all}
use Rattle.lay_line.specs.Items.{bare_of}
use Rattle.lay_line.specs.steps.Leaping.{is_text}
use Rattle.lay_line.proofs.leaps.are_text.Given as goal

abbrev pub invariant-loop-piece : goal.invariant-loop-piece
invariant-loop-piece g l = list_all is_text (bare_of (drop l.piece-index l.pieces)) ≡ list_all is_text (bare_of l.pieces)
