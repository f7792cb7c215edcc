use Rattle.std.proofs.Common.{◌≡◌, ◌++◌, drop}
use Rattle.layout_semantics.specs.InlineContent.{inner_items}
use Rattle.lay_line.specs.Items.{items_of}
use Rattle.lay_flow.proofs.lines.inner_boxes_of.Given as goal

abbrev pub invariant-loop-item : goal.invariant-loop-item
invariant-loop-item l = l.boxes.items ++ inner_items (items_of (drop l.item-index l.items)) ≡ inner_items (items_of l.items)
