use Rattle.std.proofs.Common.{◌≡◌, ◌++◌, drop, None}
use Rattle.std.specs.Prelude.{option_map}
use Rattle.lay_line.specs.Items.{item_of, items_of, parting_of}
use Rattle.lay_line.specs.steps.Marks.{marks}
use Rattle.lay_line.proofs.breaks.marks.Given as goal

abbrev pub invariant-loop-item : goal.invariant-loop-item
invariant-loop-item l =
    (l.marks.items ++ marks (parting_of l.tree l.parting) (option_map item_of l.last) l.left (items_of (drop l.item-index l.items))
    ≡ marks (parting_of l.tree l.parting) None None (items_of l.items)) × (l.count ≡ l.item-index)
