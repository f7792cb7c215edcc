use Rattle.std.proofs.Common.{◌≡◌, ◌+◌, ◌≤◌, drop}
use Rattle.lay_line.specs.Items.{items_of}
use Rattle.lay_line.specs.steps.Cutting.{leading_ends}
use Rattle.lay_line.proofs.breaks.leading_ends.Given as goal

abbrev pub invariant-loop-item : goal.invariant-loop-item
invariant-loop-item l = (l.count + leading_ends (items_of (drop l.item-index l.items)) ≡ leading_ends (items_of l.items)) × (l.count ≤ l.item-index)
