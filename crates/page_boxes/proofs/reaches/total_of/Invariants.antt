use Rattle.std.proofs.Common.{◌≡◌, ◌≤◌, ◌+◌, ◌^◌, drop}
use Rattle.page_boxes.specs.steps.Extents.{sum_walk, most}
use Rattle.page_boxes.proofs.reaches.total_of.Given as goal

abbrev pub invariant-loop-inner : goal.invariant-loop-inner
invariant-loop-inner l = (sum_walk l.sizes l.styles l.fonts l.total (drop l.inner-index l.boxes) ≡ sum_walk l.sizes l.styles l.fonts (2 ^ 21) l.boxes) × (l.total ≤ most + 1)
