-- What is asked of boxes, that the flow stays within bounds.
use Rattle.std.specs.Prelude.{◌≡◌, ℕ, ◌+◌, ◌*◌, ◌≤◌, ℤ, pos, ◌-ℤ◌, ◌≤ℤ◌, unsigned_abs, true, false, List, ◌++◌, Some, unwrap_or}
use Rattle.std.specs.Int.{int_max}
use Rattle.std.specs.List.{AllByRecursion}
use Rattle.std.specs.Option.{option_to_list}
use Rattle.viz_base.specs.Numbers.{floor_of}
use Rattle.viz_base.specs.Styles.{sides_of, nothing}
use Rattle.viz_base.specs.Trees.{is_fragmented, is_inline}
use Rattle.viz_base.specs.declared.layouts.Widths.{Widths}
use Rattle.viz_base.specs.declared.lengths.Length.TheVariants as of_length
use Rattle.viz_base.specs.declared.lengths.Valign.{Valign}
use Rattle.viz_base.specs.declared.lengths.Valign.TheVariants as of_valign
use Rattle.viz_base.specs.declared.styles.Style.{Style}
use Rattle.viz_base.specs.declared.trees.BoxTree.{BoxTree}
use Rattle.viz_base.specs.declared.worlds.World.{World}
use Rattle.layout_semantics.specs.Blocks.{kind_of, node_of}
use Rattle.layout_semantics.specs.DefiniteHeights.{definite_height, given_height, height_around, least_height}
use Rattle.layout_semantics.specs.FlowBoxes.{room}
use Rattle.layout_semantics.specs.Fonts.{ascent, descent, text_width}
use Rattle.layout_semantics.specs.Horizontal.{flow_widths, widths}
use Rattle.layout_semantics.specs.InlineContent.{text_of}
use Rattle.layout_semantics.specs.Lengths.{used, used_unless_auto, own, margins, borders, paddings}
use Rattle.layout_semantics.specs.LineHeights.{InlineContext, LineExtent, height_of_extent, inline_extent}
use Rattle.layout_semantics.specs.Preferred.{preferred}
use Rattle.layout_semantics.specs.Replaced.{replaced_size}
use Rattle.layout_semantics.specs.Verticals.{Verticals, verticals}
use Rattle.layout_semantics.specs.Flow.{Independent, content_height}
use Rattle.page_limits.specs.Bounds.{Bounds, IsLevelIn, IsPlacedIn}
use Rattle.page_limits.specs.Inline.{IsSmall}

-- a box that is laid out whole
abbrev pub IsWhole : BoxTree → ℕ → Type 0
IsWhole tree k = is_fragmented (kind_of tree k) ≡ false

pub record AreWidthsSmall (t : ℕ) (x : Widths ℤ) : Type 0 where
  pub margin_left : IsSmall t x.margin_left
  pub border_left : IsSmall t x.border_left
  pub padding_left : IsSmall t x.padding_left
  pub content : IsSmall t x.content
  pub padding_right : IsSmall t x.padding_right
  pub border_right : IsSmall t x.border_right
  pub margin_right : IsSmall t x.margin_right

pub record AreSidesSmall (t : ℕ) (v : Verticals) : Type 0 where
  pub margin_top : IsSmall t v.margin_top
  pub border_top : IsSmall t v.border_top
  pub padding_top : IsSmall t v.padding_top
  pub padding_bottom : IsSmall t v.padding_bottom
  pub border_bottom : IsSmall t v.border_bottom
  pub margin_bottom : IsSmall t v.margin_bottom

-- a height that is the box's own, or the content's, clamped by a minimum and a maximum
pub record IsHeightClamped (t : ℕ) (auto height : ℤ) : Type 0 where
  pub from : (pos 0 -ℤ pos t) ≤ℤ height
  pub to : height ≤ℤ int_max auto (pos t)

-- the terms of a box
pub record IsBoxSmall (tree : BoxTree) (w : World) (t k : ℕ) : Type 0 where
  pub widths : AreWidthsSmall t (widths tree w k (room tree w k))
  pub flow : AreWidthsSmall t (flow_widths tree w k (room tree w k))
  pub sides : AreSidesSmall t (verticals tree w k (room tree w k))
  pub clamped : (auto : ℤ) → IsHeightClamped t auto (content_height tree w k auto)
  pub replaced : IsSmall t (replaced_size tree w k (room tree w k)).height

-- a box in coordinates of its own
pub record IsIndependentIn (own : Bounds) (s : ℕ) (a : Independent) : Type 0 where
  pub width : IsSmall s a.size.width
  pub height : IsLevelIn own a.size.height
  pub baseline : AllByRecursion (IsLevelIn own) (option_to_list a.baseline)
  pub boxes : AllByRecursion (IsPlacedIn own) a.boxes

-- a part of a text
pub record IsPartOf (part whole : List ℕ) : Type 0 where
  pub before : List ℕ
  pub after : List ℕ
  pub same : before ++ (part ++ after) ≡ whole

-- by how much the alignment of a box by its middle alone raises it
abbrev pub middle_of : InlineContext → ℕ → LineExtent → ℤ
middle_of c at e = by_align (own c.tree at (λ (s : Style). s.valign) of_valign.Baseline)
  where
    by_align : Valign → ℤ
    by_align of_valign.Middle = floor_of (height_of_extent e) 2 -ℤ e.above
    by_align _ = pos 0

-- the terms of a box in lines, whichever these are
pub record IsInlineBoxSmall (tree : BoxTree) (w : World) (t k : ℕ) : Type 0 where
  pub ascent : IsSmall t (ascent tree w (node_of tree k))
  pub descent : IsSmall t (descent tree w (node_of tree k))
  pub above : IsSmall t (inline_extent tree w (node_of tree k)).above
  pub below : IsSmall t (inline_extent tree w (node_of tree k)).below
  pub edges : is_inline (kind_of tree k) ≡ true
      → AllByRecursion (λ length. IsSmall t (used tree w length (room tree w k)))
      (sides_of (paddings tree k) ++ (sides_of (borders tree k) ++ sides_of (margins tree k)))
  pub text : (part : List ℕ) → IsPartOf part (text_of tree k) → IsSmall t (text_width tree w (node_of tree k) part)

-- the edges of a box at its sides together, each without its sign
abbrev pub edges_at : BoxTree → World → ℕ → ℤ → ℕ
edges_at tree w k cb =
    unsigned_abs (used tree w (margins tree k).left cb) + unsigned_abs (used tree w (borders tree k).left cb)
    + unsigned_abs (used tree w (paddings tree k).left cb)
    + (unsigned_abs (used tree w (paddings tree k).right cb) + unsigned_abs (used tree w (borders tree k).right cb)
    + unsigned_abs (used tree w (margins tree k).right cb))

-- a width of a box, with its edges and its containing block
abbrev pub IsWidthWithin : BoxTree → World → ℕ → ℤ → ℕ → ℤ → Type 0
IsWidthWithin tree w k cb most width = unsigned_abs cb + edges_at tree w k cb + unsigned_abs width ≤ most

-- what a box's properties give is at most so large
pub record ArePropertiesSmall (tree : BoxTree) (w : World) (most k : ℕ) : Type 0 where
  pub edges : 2 * (unsigned_abs (room tree w k) + edges_at tree w k (room tree w k)) ≤ most
  pub width : (v : ℤ)
      → used_unless_auto tree w (own tree k (λ (s : Style). s.width) of_length.Auto) (room tree w k) ≡ Some v
      → IsWidthWithin tree w k (room tree w k) most v
  pub least : IsWidthWithin tree w k (room tree w k) most
      (used tree w (own tree k (λ (s : Style). s.min_width) nothing) (room tree w k))
  pub preferred_least : IsWidthWithin tree w k (room tree w k) most (preferred tree w k).least
  pub preferred_most : IsWidthWithin tree w k (room tree w k) most (preferred tree w k).most
  pub replaced_width
      : IsWidthWithin tree w k (room tree w k) most (replaced_size tree w k (room tree w k)).width
  pub replaced_height : IsSmall most (replaced_size tree w k (room tree w k)).height
  pub sides : AreSidesSmall most (verticals tree w k (room tree w k))
  pub given_height : (h : ℤ) → given_height tree w k ≡ Some h → IsSmall most h
  pub least_height : IsSmall most
      (unwrap_or (height_around tree w (definite_height tree w k) (least_height tree k)) (pos 0))
