use Rattle.std.proofs.Common.{◌≡◌, ◌≤◌, ◌+◌, drop}
use Rattle.page_boxes.specs.steps.Extents.{widths_in, most}
use Rattle.page_boxes.proofs.extents.widths.Given as goal

abbrev pub invariant-loop-letter : goal.invariant-loop-letter
invariant-loop-letter l = (widths_in l.font l.size l.total (drop l.letter-index l.letters) ≡ widths_in l.font l.size 0 l.letters) × (l.total ≤ most + 1)
