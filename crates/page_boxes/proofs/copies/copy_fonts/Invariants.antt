use Rattle.std.proofs.Common.{◌≡◌, ◌++◌, drop}
use Rattle.page_boxes.proofs.copies.copy_fonts.Given as goal

abbrev pub invariant-loop-font : goal.invariant-loop-font
invariant-loop-font l = l.copies ++ drop l.font-index l.fonts ≡ l.fonts
