-- Inline content with what each item takes, part by part.
use Rattle.std.specs.Prelude.{ℕ, ◌<◌, ℤ, pos, ◌+ℤ◌, List, [], ◌∷◌, length, map, Option, Some, None}
use Rattle.viz_base.specs.declared.layouts.Preferred.{Preferred}
use Rattle.viz_base.specs.declared.trees.BoxTree.{BoxTree}
use Rattle.viz_base.specs.declared.worlds.World.{World}
use Rattle.layout_semantics.specs.Blocks.{node_of}
use Rattle.layout_semantics.specs.Fonts.{text_width}
use Rattle.layout_semantics.specs.InlineContent.{Item, start, finish, word, space, atomic, float, box_of, content, is_floated_at}
use Rattle.layout_semantics.specs.Order.{kids_of}
use Rattle.layout_semantics.specs.Segments.{may_part, never}
use Rattle.lay_line.specs.steps.Held.{Held, nothing_held, with_item}
use Rattle.lay_line.specs.steps.Loading.{parts_of}
use Rattle.lay_line.specs.steps.Marks.{marks}
use Rattle.lay_preferred.specs.steps.Columns.{no_children, with_children, whole}
use Rattle.lay_preferred.specs.steps.Extremes.{larger, or_zero}
use Rattle.lay_preferred.specs.steps.Outer.{both, start_of, end_of, outer}

-- an item with its preferred minimum and its preferred width
pub record Sized : Type 0 where
  pub item : Item
  pub widths : Preferred ℤ

abbrev pub sized : (Item → Preferred ℤ) → List Item → List Sized
sized widths items = map (λ i. record { item = i; widths = widths i }) items

-- what an item takes that is no box
unfoldable pub width_of : BoxTree → World → Item → ℤ
width_of tree w (word at text) = text_width tree w (node_of tree at) text
width_of tree w (space at) = text_width tree w (node_of tree at) (32 ∷ [])
width_of tree w (start at) = start_of tree w at
width_of tree w (finish at) = end_of tree w at
width_of tree w i = pos 0

-- what an item takes, a float too
abbrev pub widths_of : BoxTree → World → Item → Preferred ℤ
widths_of tree w (atomic at) = outer tree w at
widths_of tree w (float at) = outer tree w at
widths_of tree w i = both (width_of tree w i)

-- ---- a part

-- a float takes no place among the others
abbrev pub held_after : ℤ → Held → Item → Held
held_after width h (float at) = h
held_after width h i = with_item (λ j. width) h i

abbrev pub held_least : Held → List Sized → Held
held_least h [] = h
held_least h (s ∷ ss) = held_least (held_after s.widths.least h s.item) ss

abbrev pub held_most : Held → List Sized → Held
held_most h [] = h
held_most h (s ∷ ss) = held_most (held_after s.widths.most h s.item) ss

unfoldable pub least_width : List Sized → ℤ
least_width part = (held_least nothing_held part).width

abbrev pub sum_after : ℤ → Sized → Item → ℤ
sum_after sum s (float at) = sum +ℤ s.widths.most
sum_after sum s i = sum

abbrev pub floats_from : ℤ → List Sized → ℤ
floats_from sum [] = sum
floats_from sum (s ∷ ss) = floats_from (sum_after sum s s.item) ss

-- with the floats in it
unfoldable pub most_width : List Sized → ℤ
most_width part = (held_most nothing_held part).width +ℤ floats_from (pos 0) part

-- ---- the widest

abbrev pub widest : (List Sized → ℤ) → Option ℤ → List (List Sized) → Option ℤ
widest width best [] = best
widest width best (part ∷ parts) = widest width (Some (larger best (width part))) parts

abbrev pub past_float : Option ℤ → ℤ → Item → Option ℤ
past_float best width (float at) = Some (larger best width)
past_float best width i = best

abbrev pub widest_float : Option ℤ → List Sized → Option ℤ
widest_float best [] = best
widest_float best (s ∷ ss) = widest_float (past_float best s.widths.least s.item) ss

-- ---- inline content

abbrev pub inline_of : BoxTree → List Item → List Sized → Preferred ℤ
inline_of tree items sizes = record {
  least = or_zero (widest_float (widest least_width None (parts_of sizes (marks (may_part tree) None None items)))
      sizes);
  most = or_zero (widest most_width None (parts_of sizes (marks never None None items)));
}

unfoldable pub inline_in : BoxTree → World → ℕ → Preferred ℤ
inline_in tree w at = inline_of tree (content tree at) (sized (widths_of tree w) (content tree at))

-- ---- blocks

unfoldable pub blocks_in : BoxTree → World → ℕ → Preferred ℤ
blocks_in tree w at = whole (with_children (is_floated_at tree) (outer tree w) no_children (kids_of tree.boxes at))

-- ---- places

-- a box in inline content is behind the box that holds it, and one of the tree
abbrev pub IsInside : BoxTree → ℕ → Item → Type 0
IsInside tree b i = (b < box_of i) × (box_of i < length tree.boxes)
