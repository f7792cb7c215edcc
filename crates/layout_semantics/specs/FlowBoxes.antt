-- The sorts of boxes that normal flow, margins and clearance tell apart (CSS 2.1, 8.3.1, 9.4.1, 9.5.2).
use Rattle.std.specs.Prelude.{ℕ, zero, suc, ◌*◌, ℤ, pos, cond, ◌+ℤ◌, ◌-ℤ◌, Bool, true, false, not, ◌&&◌, ◌||◌, is_none, List, slice_get}
use Rattle.std.specs.Option.{option_map_or}
use Rattle.viz_base.specs.Trees.{is_inline, is_replaced}
use Rattle.viz_base.specs.declared.layouts.Band.{Band}
use Rattle.viz_base.specs.declared.layouts.Widths.{Widths}
use Rattle.viz_base.specs.declared.styles.Clear.{Clear}
use Rattle.viz_base.specs.declared.styles.Clear.TheVariants as of_clear
use Rattle.viz_base.specs.declared.styles.Style.{Style}
use Rattle.viz_base.specs.declared.trees.BoxNode.{BoxNode}
use Rattle.viz_base.specs.declared.trees.BoxTree.{BoxTree}
use Rattle.viz_base.specs.declared.worlds.World.{World}
use Rattle.layout_semantics.specs.Blocks.{kind_of, parent_of}
use Rattle.layout_semantics.specs.Order.{kids_of}
use Rattle.layout_semantics.specs.Lengths.{own, borders, paddings}
use Rattle.layout_semantics.specs.DefiniteHeights.{own_height, has_auto_height, has_no_minimum}
use Rattle.layout_semantics.specs.Horizontal.{flow_widths, widths}
use Rattle.layout_semantics.specs.InlineContent.{is_floated_at, is_zero, has_line, holds_inline, content, float_boxes}

unfoldable pub is_replaced_at : BoxTree → ℕ → Bool
is_replaced_at tree b = is_replaced (kind_of tree b)

-- it starts a block formatting context, and is not replaced (9.4.1)
unfoldable pub is_context_root : BoxTree → ℕ → Bool
is_context_root tree b =
    option_map_or (λ (x : BoxNode). not (is_replaced x.kind) && x.context) (slice_get tree.boxes b) false

unfoldable pub is_block_level_at : BoxTree → ℕ → Bool
is_block_level_at tree b = option_map_or (λ (x : BoxNode). x.block_level) (slice_get tree.boxes b) false

-- ---- clear (9.5.2)

-- an in-flow block that starts a context, and an in-flow block-level replaced box, are treated as
-- `clear: both`, so that they overlap no float (our own reading; 9.5 allows to place them below)
unfoldable pub stands_clear_of_floats : BoxTree → ℕ → Bool
stands_clear_of_floats tree b = (is_context_root tree b || is_replaced_at tree b) && is_block_level_at tree b
    && not (is_floated_at tree b)

-- `clear` as it works on a box in flow; on the root it has no effect
unfoldable pub clear_of : BoxTree → ℕ → Clear
clear_of tree b = by_place (is_none (parent_of tree.boxes b)) (stands_clear_of_floats tree b)
  where
    by_place : Bool → Bool → Clear
    by_place true any = of_clear.Nothing
    by_place false true = of_clear.Both
    by_place false false = own tree b (λ (s : Style). s.clear) of_clear.Nothing

-- ---- what parts margins (8.3.1), by computed values: zero means a computed value of zero (our own reading)

-- no border and no padding above the content, and no context of its own, part its top margin from its first child's
unfoldable pub is_open_above : BoxTree → ℕ → Bool
is_open_above tree b = not (is_context_root tree b) && not (is_replaced_at tree b)
    && is_zero (borders tree b).top && is_zero (paddings tree b).top

unfoldable pub is_open_below : BoxTree → ℕ → Bool
is_open_below tree b = not (is_context_root tree b) && not (is_replaced_at tree b)
    && is_zero (borders tree b).bottom && is_zero (paddings tree b).bottom

-- ---- content

-- what normal flow has of a container without lines: its block-level boxes
-- and floats, or the floats in its inline content
abbrev pub flow_children : BoxTree → ℕ → List ℕ
flow_children tree b = by_sort (holds_inline tree b)
  where
    by_sort : Bool → List ℕ
    by_sort true = float_boxes (content tree b)
    by_sort false = kids_of tree.boxes b

-- ---- blocks whose margins adjoin those in them (8.3.1)

-- a block whose own top and bottom margins adjoin, where all its in-flow children collapse through too
unfoldable pub may_collapse_through : BoxTree → ℕ → Bool
may_collapse_through tree b = is_open_above tree b && is_open_below tree b && has_no_minimum tree b
    && (has_auto_height tree b || is_zero (own_height tree b)) && not (has_line tree b)

-- a block whose bottom margin adjoins its last in-flow child's
unfoldable pub joins_last_child : BoxTree → ℕ → Bool
joins_last_child tree b = is_open_below tree b && has_auto_height tree b && has_no_minimum tree b

-- ---- containing blocks (10.1)

-- the width of a containing block
abbrev pub inline_size : Band ℤ → ℤ
inline_size cb = cb.right -ℤ cb.left

-- from the left to the right edge of the content of a box whose margin edge is at `left`
abbrev pub content_from : ℤ → Widths ℤ → Band ℤ
content_from left x = from (left +ℤ x.margin_left +ℤ x.border_left +ℤ x.padding_left)
  where
    from : ℤ → Band ℤ
    from edge = record { left = edge; right = edge +ℤ x.content }

-- of a box in a containing block
abbrev pub content_band : BoxTree → World → Band ℤ → ℕ → Band ℤ
content_band tree w cb b = content_from cb.left (widths tree w b (inline_size cb))

-- of a block in normal flow that isn't replaced: the viewport's height does not matter to it
abbrev pub block_band : BoxTree → World → Band ℤ → ℕ → Band ℤ
block_band tree w cb b = content_from cb.left (flow_widths tree w b (inline_size cb))

-- ---- the width of a box's containing block, from the root down (10.1)

-- inside a box whose own containing block is `around` wide: an inline box is no containing block
abbrev pub room_inside : BoxTree → World → ℕ → ℤ → ℤ
room_inside tree w b around = cond (is_inline (kind_of tree b)) around (widths tree w b around).content

unfoldable pub room_to : ℕ → BoxTree → World → ℕ → ℤ
room_to zero tree w b = pos (64 * w.w)
room_to (suc levels) tree w b =
    option_map_or (λ parent. room_inside tree w parent (room_to levels tree w parent))
    (parent_of tree.boxes b) (pos (64 * w.w))

-- the root's is the viewport; a box's number is greater than its parent's
abbrev pub room : BoxTree → World → ℕ → ℤ
room tree w b = room_to (suc b) tree w b
