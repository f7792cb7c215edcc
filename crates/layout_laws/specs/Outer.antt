use Rattle.std.specs.Prelude.{ℕ, ℤ, ◌+ℤ◌, List, ◌++◌, map, length}
use Rattle.viz_base.specs.declared.layouts.Preferred.{Preferred}
use Rattle.viz_base.specs.declared.trees.BoxTree.{BoxTree}
use Rattle.viz_base.specs.declared.worlds.World.{World}
use Rattle.layout_semantics.specs.Order.{kids_of}
use Rattle.layout_semantics.specs.Lists.{table_of}
use Rattle.layout_semantics.specs.Lengths.{total}
use Rattle.layout_semantics.specs.InlineContent.{content, inner_boxes}
use Rattle.layout_semantics.specs.Segments.{segments, pieces}
use Rattle.layout_semantics.specs.Preferred.{preferred, outer_preferred, with_least, with_most, preferred_segment, preferred_floats, as_children, block_widths}

-- the outer preferred widths of boxes
abbrev pub outer_widths : BoxTree → World → List ℕ → List (ℕ × Preferred ℤ)
outer_widths tree w boxes = map (λ k. (k, outer_preferred tree w k (preferred tree w k))) boxes

-- of a box's inline content: the widths of the segments that no line may break and of the floats
abbrev pub unbreakable_widths : BoxTree → World → ℕ → List ℤ
unbreakable_widths tree w at =
    map (preferred_segment tree w
    (table_of (length tree.boxes) (with_least (outer_widths tree w (inner_boxes tree at)))))
    (segments tree (content tree at))
    ++ preferred_floats (table_of (length tree.boxes) (with_least (outer_widths tree w (inner_boxes tree at))))
    (content tree at)

-- the widths of the pieces between forced breaks, each with its floats
abbrev pub piece_widths : BoxTree → World → ℕ → List ℤ
piece_widths tree w at =
    map (λ piece. preferred_segment tree w
    (table_of (length tree.boxes) (with_most (outer_widths tree w (inner_boxes tree at)))) piece
    +ℤ total (preferred_floats (table_of (length tree.boxes) (with_most (outer_widths tree w (inner_boxes tree at))))
    piece)) (pieces (content tree at))

-- of a box's children: their preferred minimum widths, floats' too
abbrev pub child_least_widths : BoxTree → World → ℕ → List ℤ
child_least_widths tree w at = map (λ entry. (entry.1).least) (outer_widths tree w (kids_of tree.boxes at))

-- the preferred widths of those in normal flow, and those of floats that follow one another together
abbrev pub child_most_widths : BoxTree → World → ℕ → List ℤ
child_most_widths tree w at = block_widths (as_children tree (with_most (outer_widths tree w (kids_of tree.boxes at))))
