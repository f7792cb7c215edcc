use Rattle.std.proofs.Common.{◌≡◌, ◌-◌, ◌+◌, ◌*◌, length, drop}
use Rattle.std.specs.List.{list_any}
use Rattle.layout_semantics.specs.Order.{kids_of}
use Rattle.lay_tree.specs.Contents.{in_line}
use Rattle.lay_tree.proofs.contents.+lines.Given as goal

abbrev pub decreases-is_in_line : goal.decreases-is_in_line
decreases-is_in_line l = 2 * (length l.tree.now.boxes - l.at) + 1

abbrev pub decreases-is_in_lines : goal.decreases-is_in_lines
decreases-is_in_lines l = 2 * (length l.tree.now.boxes - l.at)

abbrev pub invariant-is_in_lines-loop-kid : goal.invariant-is_in_lines-loop-kid
invariant-is_in_lines-loop-kid l =
    list_any (in_line l.tree) (drop l.kid-index (kids_of l.tree.boxes l.at)) ≡ list_any (in_line l.tree) (kids_of l.tree.boxes l.at)
