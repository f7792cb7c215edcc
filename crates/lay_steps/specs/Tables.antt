-- The boxes of a page: each float and each atomic inline-level box is laid out once, and kept by its number.
use Rattle.std.specs.Prelude.{ℕ, zero, suc, ◌-◌, ◌*◌, ℤ, pos, true, false, List, [], ◌∷◌, filter, fold, length, get_or, set, replicate, Option, Some, None, unwrap_or}
use Rattle.viz_base.specs.Trees.{is_inline}
use Rattle.viz_base.specs.declared.layouts.Band.{Band}
use Rattle.viz_base.specs.declared.renderings.Placed.{Placed}
use Rattle.viz_base.specs.declared.trees.BoxNode.{BoxNode}
use Rattle.viz_base.specs.declared.trees.BoxTree.{BoxTree}
use Rattle.viz_base.specs.declared.worlds.World.{World}
use Rattle.layout_semantics.specs.Blocks.{kind_of}
use Rattle.layout_semantics.specs.FlowBoxes.{flow_children, content_from, room}
use Rattle.layout_semantics.specs.Horizontal.{widths}
use Rattle.layout_semantics.specs.InlineContent.{is_floated_at, has_line, inner_boxes}
use Rattle.layout_semantics.specs.Flow.{Independent}
use Rattle.lay_steps.specs.Flow.{independent_of}

-- what stands in a block container and not in its flow: the floats and
-- atomic boxes of its lines, or the floats between its blocks
abbrev pub outside_of : BoxTree → ℕ → List ℕ
outside_of tree b =
    elim (has_line tree b) [ true ↦ inner_boxes tree b | false ↦ filter (is_floated_at tree) (flow_children tree b) ]

-- ---- the table

abbrev pub nothing_independent : Independent
nothing_independent = record { size = record { width = pos 0; height = pos 0 }; baseline = None; boxes = [] }

abbrev pub laid_at : List (Option Independent) → ℕ → Independent
laid_at table k = unwrap_or (get_or table k None) nothing_independent

module _ (tree : BoxTree) (w : World) where
  -- with one box more, laid out where its containing block is as wide as the tree says
  unfoldable pub with_box : List (Option Independent) → ℕ → List (Option Independent)
  with_box table k = set table k (Some (independent_of tree w (laid_at table) k (room tree w k)))

  abbrev pub with_boxes : List (Option Independent) → List ℕ → List (Option Independent)
  with_boxes table ks = fold with_box table ks

  -- with those of a box; an inline box is no block container
  unfoldable pub with_container : List (Option Independent) → ℕ → List (Option Independent)
  with_container table b =
      elim (is_inline (kind_of tree b)) [ true ↦ table | false ↦ with_boxes table (outside_of tree b) ]

  -- the band that a box gives those in it, its margin edge being at `left`
  abbrev pub inside_of : ℤ → ℕ → Band ℤ
  inside_of left b = content_from left (widths tree w b (room tree w b))

  -- of the last so many boxes
  unfoldable pub table_to : ℕ → List (Option Independent)
  table_to zero = replicate (length tree.boxes) None
  table_to (suc count) = with_container (table_to count) (length tree.boxes - suc count)

  -- the root's containing block is the viewport (10.1)
  abbrev pub page_boxes : List (Placed ℤ)
  page_boxes = by_boxes tree.boxes
    where
      by_boxes : List BoxNode → List (Placed ℤ)
      by_boxes [] = []
      by_boxes (root ∷ rest) =
          (independent_of tree w (laid_at (table_to (length tree.boxes))) 0 (pos (64 * w.w))).boxes
