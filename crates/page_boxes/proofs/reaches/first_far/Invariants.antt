use Rattle.std.proofs.Common.{◌≡◌, [], drop}
use Rattle.page_boxes.specs.steps.Extents.{first_far, AreCapped}
use Rattle.page_boxes.proofs.reaches.first_far.Given as goal

abbrev pub invariant-loop-inner : goal.invariant-loop-inner
invariant-loop-inner l = (first_far l.sizes l.styles l.fonts l.total l.reaches.items (drop l.inner-index l.boxes) ≡ first_far l.sizes l.styles l.fonts l.total [] l.boxes) × AreCapped l.reaches.items
