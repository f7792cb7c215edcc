use Rattle.std.proofs.Common.{◌≡◌, ◌-◌, ◌+◌, ◌*◌, ◌++◌, length, drop, flat_map}
use Rattle.layout_semantics.specs.Order.{kids_of}
use Rattle.lay_line.specs.Items.{summed_of}
use Rattle.lay_line.specs.steps.Content.{own_items}
use Rattle.lay_line.proofs.content.+walk.Given as goal

abbrev pub decreases-add_box : goal.decreases-add_box
decreases-add_box l = 2 * (length l.tree.now.boxes - l.at) + 1

abbrev pub decreases-add_content : goal.decreases-add_content
decreases-add_content l = 2 * (length l.tree.now.boxes - l.at)

abbrev pub invariant-add_content-loop-kid : goal.invariant-add_content-loop-kid
invariant-add_content-loop-kid l =
    summed_of l.items.items ++ flat_map (own_items l.tree) (drop l.kid-index (kids_of l.tree.boxes l.at))
    ≡ summed_of l.initial.items.items ++ flat_map (own_items l.tree) (kids_of l.tree.boxes l.at)
