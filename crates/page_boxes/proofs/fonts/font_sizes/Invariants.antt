use Rattle.std.proofs.Common.{◌≡◌, [], drop}
use Rattle.page_boxes.specs.steps.Extents.{sizes_walk, AreCapped}
use Rattle.page_boxes.proofs.fonts.font_sizes.Given as goal

abbrev pub invariant-loop-at : goal.invariant-loop-at
invariant-loop-at l = (sizes_walk l.sizes.items l.parents l.at (drop l.at l.styles) ≡ sizes_walk [] l.parents 0 l.styles) × AreCapped l.sizes.items
