use Rattle.std.proofs.Common.{◌≡◌, ◌-◌, ◌+◌, ◌*◌, ◌++◌, length, drop, flat_map}
use Rattle.layout_semantics.specs.Order.{kids_of}
use Rattle.lay_tree.specs.Contents.{own_floats}
use Rattle.lay_tree.proofs.contents.+floats.Given as goal

abbrev pub decreases-add_own_floats : goal.decreases-add_own_floats
decreases-add_own_floats l = 2 * (length l.tree.now.boxes - l.at) + 1

abbrev pub decreases-add_floats : goal.decreases-add_floats
decreases-add_floats l = 2 * (length l.tree.now.boxes - l.at)

abbrev pub invariant-add_floats-loop-kid : goal.invariant-add_floats-loop-kid
invariant-add_floats-loop-kid l =
    l.floats.items ++ flat_map (own_floats l.tree) (drop l.kid-index (kids_of l.tree.boxes l.at))
    ≡ l.initial.floats.items ++ flat_map (own_floats l.tree) (kids_of l.tree.boxes l.at)
