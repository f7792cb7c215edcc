-- The definitions that go down or up a tree, each by what it gives one level further on.
use Rattle.std.specs.Prelude.{ℕ, ◌*◌, ◌==◌, ℤ, pos, ◌+ℤ◌, true, false, List, [], ◌∷◌, ◌++◌, length, Option, Some, option_and_then}
use Rattle.std.specs.Option.{option_map_or}
use Rattle.viz_base.specs.declared.layouts.Preferred.{Preferred}
use Rattle.viz_base.specs.declared.lengths.Valign.TheVariants as of_valign
use Rattle.viz_base.specs.declared.styles.Style.{Style}
use Rattle.viz_base.specs.declared.trees.BoxTree.{BoxTree}
use Rattle.viz_base.specs.declared.worlds.World.{World}
use Rattle.layout_semantics.specs.Order.{kids_of}
use Rattle.layout_semantics.specs.Blocks.{kind_of, node_of, parent_of}
use Rattle.layout_semantics.specs.Lengths.{own}
use Rattle.layout_semantics.specs.DefiniteHeights.{is_passed_over, percentage_container, definite_height, own_height_around}
use Rattle.layout_semantics.specs.Replaced.{preferred_replaced}
use Rattle.layout_semantics.specs.InlineContent.{Item, start, finish, atomic, forced, float, Sort, a_float, an_atomic, a_break, a_text, an_inline, sort_of, text_of, text_items, content, inner_boxes}
use Rattle.layout_semantics.specs.Preferred.{Inside, a_replaced, inline_content, blocks, inside_of, preferred_inline, preferred_blocks}
use Rattle.layout_semantics.specs.LineHeights.{InlineContext, LineExtent, inline_extent, raise, shift, tallest}
use Rattle.layout_semantics.specs.Lines.{SoFar, LaidLines, lines_to}
use Rattle.layout_laws.specs.Outer.{outer_widths}

-- a box in inline content: a float, an atomic box and a forced break are one item, a text its
-- words and spaces, and an inline box its content between its start and its end
abbrev pub items_of_sort : BoxTree → ℕ → List Item → Sort → List Item
items_of_sort tree at inside s =
    elim s [
      | a_float ↦ float at ∷ []
      | an_atomic ↦ atomic at ∷ []
      | a_break ↦ forced at ∷ []
      | a_text ↦ text_items at (text_of tree at)
      | an_inline ↦ start at ∷ (inside ++ finish at ∷ [])
    ]

abbrev pub box_items : BoxTree → ℕ → List Item
box_items tree at = items_of_sort tree at (content tree at) (sort_of tree at)

-- the preferred widths of what is in a box, by the outer ones of the boxes in it
abbrev pub preferred_of_sort : BoxTree → World → ℕ → List (ℕ × Preferred ℤ) → List (ℕ × Preferred ℤ) → Inside
    → Preferred ℤ
preferred_of_sort tree w at inner kids s = elim s [
  | a_replaced ↦ record { least = preferred_replaced tree w at; most = preferred_replaced tree w at }
  | inline_content ↦ preferred_inline tree w inner (content tree at)
  | blocks ↦ preferred_blocks tree kids
]

abbrev pub preferred_by_inside : BoxTree → World → ℕ → Preferred ℤ
preferred_by_inside tree w at =
    preferred_of_sort tree w at (outer_widths tree w (inner_boxes tree at))
    (outer_widths tree w (kids_of tree.boxes at)) (inside_of tree at)

-- the box whose height percentages are of, by that of the parent
abbrev pub container_by_parent : BoxTree → ℕ → Option ℕ
container_by_parent tree at =
    option_and_then (λ parent. elim (is_passed_over (kind_of tree parent))
    [ true ↦ percentage_container tree parent | false ↦ Some parent ]) (parent_of tree.boxes at)

-- the height that percentages are of, by that of the container
abbrev pub definite_height_by_container : BoxTree → World → ℕ → Option ℤ
definite_height_by_container tree w at =
    option_map_or (λ container. own_height_around tree w (definite_height tree w container) container)
    (percentage_container tree at) (Some (pos (64 * w.h)))

-- a box's own raise and that of the inline box around it
abbrev pub shift_by_parent : InlineContext → ℕ → LineExtent → ℤ
shift_by_parent c at e = elim (at == c.container) [
  | true ↦ pos 0
  | false ↦ option_map_or
      (λ parent. raise c (node_of c.tree at) (node_of c.tree parent) e
      (own c.tree at (λ (s : Style). s.valign) of_valign.Baseline)
      +ℤ shift c parent (inline_extent c.tree c.world (node_of c.tree parent))) (parent_of c.tree.boxes at) (pos 0)
]

-- the lines of so many segments
abbrev pub lines_of : InlineContext → SoFar → List (List Item) → LaidLines
lines_of c now parts = lines_to (length parts) c (tallest c) now parts
