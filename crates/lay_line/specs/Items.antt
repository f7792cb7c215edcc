-- Items of inline content as the code has them.
use Rattle.std.specs.Prelude.{ℤ, pos, List, map}
use Rattle.viz_base.specs.declared.trees.BoxTree.{BoxTree}
use Rattle.layout_semantics.specs.InlineContent as content
use Rattle.layout_semantics.specs.Segments as segments
use Rattle.lay_line.specs.declared.breaks.Parting.{Parting}
use Rattle.lay_line.specs.declared.breaks.Run.{Run}
use Rattle.lay_line.specs.steps.Content.{Summed}
use Rattle.lay_line.specs.steps.Marks as steps
use Rattle.lay_line.specs.declared.breaks.Parting.TheVariants as of_parting
use Rattle.lay_line.specs.declared.held.Piece.{Piece}
use Rattle.lay_line.specs.declared.items.Item.{Item}
use Rattle.lay_line.specs.declared.items.Item.TheVariants as of_code

abbrev pub item_of : Item → content.Item
item_of (of_code.Start at) = content.start at
item_of (of_code.Finish at) = content.finish at
item_of (of_code.Word at word) = content.word at word.now.letters
item_of (of_code.Space at) = content.space at
item_of (of_code.Atomic at) = content.atomic at
item_of (of_code.Forced at) = content.forced at
item_of (of_code.Float at) = content.float at

abbrev pub items_of : List Item → List content.Item
items_of items = map item_of items

-- an item with the sum of advances that it has
abbrev pub summed : Item → Summed
summed item = record { item = item_of item; units = units_of item }
  where
    units_of : Item → ℤ
    units_of (of_code.Word at word) = word.now.units
    units_of _ = pos 0

abbrev pub summed_of : List Item → List Summed
summed_of items = map summed items

-- between which things content is parted
abbrev pub parting_of : BoxTree → Parting → segments.Parting
parting_of tree of_parting.Lines = segments.may_part tree
parting_of tree of_parting.Never = segments.never

-- what is known of a run
abbrev pub run_of : Run → steps.Run
run_of r = record { starts = r.starts.items; last = r.last }

-- the items of pieces
abbrev pub bare_of : {N : Type 0} → List (Piece N) → List content.Item
bare_of pieces = map (λ p. item_of p.item) pieces
