use Rattle.std.proofs.Common.{length, ◌-◌, ◌≡◌, ◌++◌, drop}
use Rattle.css_semantics.specs.MediaLists.{after_piece, piece_item}
use Rattle.css_semantics.specs.SheetsReading.{gathered}
use Rattle.css_syntax.proofs.pieces.written.Given as goal

abbrev pub invariant-loop-at : goal.invariant-loop-at
invariant-loop-at l = l.found ++ gathered piece_item after_piece 0 (drop l.at l.tokens) ≡ gathered piece_item after_piece 0 l.tokens

abbrev pub decreases-loop-at : goal.decreases-loop-at
decreases-loop-at l = length l.tokens - l.at
