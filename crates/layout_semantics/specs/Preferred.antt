-- Preferred widths (CSS 2.1, 10.3.5), which the standard leaves open: our own reading.
use Rattle.std.specs.Prelude.{ℕ, zero, suc, ℤ, pos, ◌+ℤ◌, Bool, true, false, List, [], ◌∷◌, ◌++◌, map, length, slice_index_or, Option, None, unwrap_or}
use Rattle.viz_base.specs.declared.layouts.Preferred.{Preferred}
use Rattle.viz_base.specs.declared.lengths.Length.{Length}
use Rattle.viz_base.specs.declared.lengths.Length.TheVariants as of_length
use Rattle.viz_base.specs.declared.styles.Style.{Style}
use Rattle.viz_base.specs.declared.trees.BoxTree.{BoxTree}
use Rattle.viz_base.specs.declared.trees.Kind.{Kind}
use Rattle.viz_base.specs.declared.trees.Kind.TheVariants as of_kind
use Rattle.viz_base.specs.declared.worlds.World.{World}
use Rattle.viz_base.specs.Styles.{nothing}
use Rattle.layout_semantics.specs.Lists.{table_of}
use Rattle.layout_semantics.specs.Extremes.{greatest_from}
use Rattle.layout_semantics.specs.Order.{kids_of}
use Rattle.layout_semantics.specs.Blocks.{kind_of, node_of}
use Rattle.layout_semantics.specs.Fonts.{text_width}
use Rattle.layout_semantics.specs.Lengths.{used_if_absolute, maximum, clamped, total, own}
use Rattle.layout_semantics.specs.Replaced.{preferred_replaced}
use Rattle.layout_semantics.specs.InlineContent.{Item, start, finish, word, space, atomic, forced, float, content, holds_inline, is_floated_at, inner_boxes, float_boxes, start_edges, end_edges}
use Rattle.layout_semantics.specs.Segments.{segments, pieces, what_stays}

-- ---- a box in the preferred widths of its container

-- an absolute length; a percentage and `auto` count 0
abbrev pub absolute_part : BoxTree → World → Length → ℤ
absolute_part tree w length = unwrap_or (used_if_absolute tree w length) (pos 0)

-- the horizontal edges of a box
abbrev pub outer_edges : BoxTree → World → ℕ → ℤ
outer_edges tree w at = total (map (absolute_part tree w) (start_edges tree at ++ end_edges tree at))

-- a width between its minimum and its maximum; a percentage counts 0 as a minimum, and as a maximum none
abbrev pub clamped_absolute : BoxTree → World → ℕ → ℤ → ℤ
clamped_absolute tree w at width =
    clamped (maximum (used_if_absolute tree w) (own tree at (λ (s : Style). s.max_width) None))
    (absolute_part tree w (own tree at (λ (s : Style). s.min_width) nothing)) width

-- with its width, or where that is `auto` or a percentage with its own preferred one, and its edges
abbrev pub outer_width : BoxTree → World → ℕ → ℤ → ℤ
outer_width tree w at inside = clamped_absolute tree w at (by_kind (kind_of tree at)) +ℤ outer_edges tree w at
  where
    by_kind : Kind → ℤ
    by_kind of_kind.Replaced = inside
    by_kind _ = unwrap_or (used_if_absolute tree w (own tree at (λ (s : Style). s.width) of_length.Auto)) inside

abbrev pub outer_preferred : BoxTree → World → ℕ → Preferred ℤ → Preferred ℤ
outer_preferred tree w at inside =
    record { least = outer_width tree w at inside.least; most = outer_width tree w at inside.most }

-- ---- lists of widths

-- the greatest of a list, 0 where it is empty
abbrev pub greatest : List ℤ → ℤ
greatest [] = pos 0
greatest (x ∷ xs) = greatest_from x xs

-- the sum of each list that a list begins with, with what is before it
abbrev pub sums_from : ℤ → List ℤ → List ℤ
sums_from before [] = []
sums_from before (x ∷ xs) = (before +ℤ x) ∷ sums_from (before +ℤ x) xs

-- ---- block containers

-- a child in normal flow with its preferred width, or a float with its
pub data Child : Type 0 where
  in_flow : ℤ → Child
  floated : ℤ → Child

-- the widths of the floats that the list begins with
abbrev pub leading_floats : List Child → List ℤ
leading_floats (floated x ∷ children) = x ∷ leading_floats children
leading_floats _ = []

-- of each child in normal flow, and of each run of floats that follow one another
abbrev pub block_widths : List Child → List ℤ
block_widths [] = []
block_widths (in_flow x ∷ children) = x ∷ block_widths children
block_widths (floated x ∷ children) = sums_from (pos 0) (leading_floats (floated x ∷ children)) ++ block_widths children

-- ---- inline content

-- of a float or an atomic box, by the table of those measured
abbrev pub measured_width : List (Option ℤ) → ℕ → ℤ
measured_width inner at = unwrap_or (slice_index_or inner at None) (pos 0)

-- an item of a line; a float takes no place among the others
abbrev pub preferred_item : BoxTree → World → List (Option ℤ) → Item → ℤ
preferred_item tree w inner (word at text) = text_width tree w (node_of tree at) text
preferred_item tree w inner (space at) = text_width tree w (node_of tree at) (32 ∷ [])
preferred_item tree w inner (atomic at) = measured_width inner at
preferred_item tree w inner (start at) = total (map (absolute_part tree w) (start_edges tree at))
preferred_item tree w inner (finish at) = total (map (absolute_part tree w) (end_edges tree at))
preferred_item tree w inner (forced at) = pos 0
preferred_item tree w inner (float at) = pos 0

-- a segment without the spaces at its ends
abbrev pub preferred_segment : BoxTree → World → List (Option ℤ) → List Item → ℤ
preferred_segment tree w inner items = total (map (preferred_item tree w inner) (what_stays items))

abbrev pub preferred_floats : List (Option ℤ) → List Item → List ℤ
preferred_floats inner items = map (measured_width inner) (float_boxes items)

-- the widest segment that no line may break, or float
abbrev pub least_inline : BoxTree → World → List (Option ℤ) → List Item → ℤ
least_inline tree w inner items =
    greatest (map (preferred_segment tree w inner) (segments tree items) ++ preferred_floats inner items)

-- the widest piece between forced breaks, with the floats in it
abbrev pub most_inline : BoxTree → World → List (Option ℤ) → List Item → ℤ
most_inline tree w inner items =
    greatest (map (λ piece. preferred_segment tree w inner piece +ℤ total (preferred_floats inner piece))
    (pieces items))

-- ---- a box

-- the floats and atomic boxes, or the children, each with its outer widths
abbrev pub with_least : List (ℕ × Preferred ℤ) → List (ℕ × ℤ)
with_least boxes = map (λ entry. (entry.0, (entry.1).least)) boxes

abbrev pub with_most : List (ℕ × Preferred ℤ) → List (ℕ × ℤ)
with_most boxes = map (λ entry. (entry.0, (entry.1).most)) boxes

abbrev pub as_children : BoxTree → List (ℕ × ℤ) → List Child
as_children tree boxes = map (λ entry. of_flow (is_floated_at tree entry.0) entry.1) boxes
  where
    of_flow : Bool → ℤ → Child
    of_flow true x = floated x
    of_flow false x = in_flow x

-- of blocks: the preferred width is the greatest of the children in normal flow and of
-- the runs of floats, the preferred minimum width the greatest of all children
abbrev pub preferred_blocks : BoxTree → List (ℕ × Preferred ℤ) → Preferred ℤ
preferred_blocks tree kids =
    record {
      least = greatest (map (λ entry. (entry.1).least) kids);
      most = greatest (block_widths (as_children tree (with_most kids)));
    }

abbrev pub preferred_inline : BoxTree → World → List (ℕ × Preferred ℤ) → List Item → Preferred ℤ
preferred_inline tree w inner items = record {
  least = least_inline tree w (table_of (length tree.boxes) (with_least inner)) items;
  most = most_inline tree w (table_of (length tree.boxes) (with_most inner)) items;
}

-- what decides the preferred widths of a box
pub data Inside : Type 0 where
  a_replaced : Inside
  inline_content : Inside
  blocks : Inside

abbrev pub inside_of : BoxTree → ℕ → Inside
inside_of tree at = by_kind (kind_of tree at) (holds_inline tree at)
  where
    by_kind : Kind → Bool → Inside
    by_kind of_kind.Replaced lines = a_replaced
    by_kind _ true = inline_content
    by_kind _ false = blocks

-- down to so many levels
unfoldable pub preferred_to : ℕ → BoxTree → World → ℕ → Preferred ℤ
preferred_to zero tree w at = record { least = pos 0; most = pos 0 }
preferred_to (suc levels) tree w at = elim (inside_of tree at) [
  | a_replaced ↦ record { least = preferred_replaced tree w at; most = preferred_replaced tree w at }
  | inline_content ↦ preferred_inline tree w
      (map (λ k. (k, outer_preferred tree w k (preferred_to levels tree w k))) (inner_boxes tree at)) (content tree at)
  | blocks ↦ preferred_blocks tree
      (map (λ k. (k, outer_preferred tree w k (preferred_to levels tree w k))) (kids_of tree.boxes at))
]

-- the preferred widths of what is in a box; a page has no more levels than boxes
abbrev pub preferred : BoxTree → World → ℕ → Preferred ℤ
preferred tree w at = preferred_to (length tree.boxes) tree w at
