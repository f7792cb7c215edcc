use Rattle.std.proofs.Common.{◌≡◌, drop, find}
use Rattle.layout_semantics.specs.Segments.{is_thing}
use Rattle.lay_line.specs.Items.{items_of}
use Rattle.lay_line.proofs.breaks.next_thing.Given as goal

abbrev pub invariant-loop-item : goal.invariant-loop-item
invariant-loop-item l = find is_thing (items_of (drop l.item-index l.items)) ≡ find is_thing (items_of l.items)
