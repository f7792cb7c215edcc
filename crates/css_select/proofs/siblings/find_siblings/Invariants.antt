use Rattle.std.proofs.Common.{◌≡◌, length}
use Rattle.css_select.specs.steps.Trees.{AreLast, AreSiblingsTo}
use Rattle.css_select.proofs.siblings.find_siblings.Given as goal

abbrev pub invariant-loop-at : goal.invariant-loop-at
invariant-loop-at l =
    (length l.previous.items ≡ l.at) × (length l.last.items ≡ length l.page.nodes) × AreLast l.page.nodes l.at l.last.items × AreSiblingsTo l.page.nodes l.at l.previous.items
