use Rattle.std.proofs.Common.{◌≡◌, ◌+◌, drop}
use Rattle.std.specs.List.{position_or_len}
use Rattle.vis_read.specs.Pieces.{is_quote}
use Rattle.vis_read.proofs.pieces.quote_at.Given as goal

abbrev pub invariant-loop-at : goal.invariant-loop-at
invariant-loop-at l = l.at + position_or_len is_quote (drop l.at l.bytes) ≡ position_or_len is_quote l.bytes
