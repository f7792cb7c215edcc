-- Heights of inline boxes and of lines (CSS 2.1, 10.8).
use Rattle.std.specs.Prelude.{ℕ, zero, suc, ◌==◌, ℤ, pos, ◌+ℤ◌, ◌-ℤ◌, neg_ℤ, true, false, List, [], ◌∷◌, map, slice_index_or, Option, None}
use Rattle.std.specs.Int.{int_max}
use Rattle.std.specs.List.{flat_map}
use Rattle.std.specs.Option.{option_map_or}
use Rattle.viz_base.specs.Numbers.{floor_of}
use Rattle.viz_base.specs.declared.layouts.Band.{Band}
use Rattle.viz_base.specs.declared.layouts.Inner.{Inner}
use Rattle.viz_base.specs.declared.lengths.Valign.{Valign}
use Rattle.viz_base.specs.declared.lengths.Valign.TheVariants as of_valign
use Rattle.viz_base.specs.declared.styles.Style.{Style}
use Rattle.viz_base.specs.declared.trees.BoxTree.{BoxTree}
use Rattle.viz_base.specs.declared.worlds.World.{World}
use Rattle.layout_semantics.specs.Extremes.{greatest_from}
use Rattle.layout_semantics.specs.Blocks.{node_of, parent_of}
use Rattle.layout_semantics.specs.Fonts.{font_size, line_height, ascent, descent}
use Rattle.layout_semantics.specs.Lengths.{used, own}
use Rattle.layout_semantics.specs.InlineContent.{Item, start, atomic, content}

-- ---- an inline formatting context (CSS 2.1, 9.4.2)

-- a block container with the edges of its content, and a table by box number
-- of the outer sizes of the floats and atomic boxes in its lines
pub record InlineContext : Type 0 where
  pub tree : BoxTree
  pub world : World
  pub container : ℕ
  pub inner : List (Option (Inner ℤ))
  pub cb : Band ℤ

abbrev pub inner_of : InlineContext → ℕ → Option (Inner ℤ)
inner_of c at = slice_index_or c.inner at None

-- ---- above and below a baseline

pub record LineExtent : Type 0 where
  pub above : ℤ
  pub below : ℤ

abbrev pub height_of_extent : LineExtent → ℤ
height_of_extent e = e.above +ℤ e.below

-- the leading is what the line height has over ascent and descent; the half above is rounded down (our own reading)
abbrev pub half_leading : BoxTree → World → ℕ → ℤ
half_leading tree w node = floor_of (line_height tree w node -ℤ (ascent tree w node +ℤ descent tree w node)) 2

-- an inline box of a node: its line height, half the leading being above its ascent (CSS 2.1, 10.8.1)
abbrev pub inline_extent : BoxTree → World → ℕ → LineExtent
inline_extent tree w node = from_above (ascent tree w node +ℤ half_leading tree w node)
  where
    from_above : ℤ → LineExtent
    from_above above = record { above = above; below = line_height tree w node -ℤ above }

-- an inline box, or an atomic box by its margin box
abbrev pub box_extent : InlineContext → ℕ → LineExtent
box_extent c at =
    option_map_or (λ (i : Inner ℤ). record { above = i.above; below = i.below }) (inner_of c at)
    (inline_extent c.tree c.world (node_of c.tree at))

-- ---- vertical-align (CSS 2.1, 10.8.1)

-- how far a box is raised over its parent's baseline: `sub`, `super` and `middle` by parts of the parent's
-- font size (our own reading), the percentages of lengths being of the box's own line height
abbrev pub raise : InlineContext → (node parent_node : ℕ) → LineExtent → Valign → ℤ
raise c node parent e of_valign.Baseline = pos 0
raise c node parent e of_valign.Sub = neg_ℤ (floor_of (font_size c.tree c.world parent) 5)
raise c node parent e of_valign.Super = floor_of (font_size c.tree c.world parent) 3
raise c node parent e of_valign.Middle =
    (floor_of (font_size c.tree c.world parent) 4 +ℤ floor_of (height_of_extent e) 2) -ℤ e.above
raise c node parent e (of_valign.Raise length) = used c.tree c.world length (line_height c.tree c.world node)

unfoldable pub shift_to : ℕ → InlineContext → ℕ → LineExtent → ℤ
shift_to zero c at e = pos 0
shift_to (suc levels) c at e = elim (at == c.container) [
  | true ↦ pos 0
  | false ↦ option_map_or
      (λ parent. raise c (node_of c.tree at) (node_of c.tree parent) e
      (own c.tree at (λ (s : Style). s.valign) of_valign.Baseline)
      +ℤ shift_to levels c parent (inline_extent c.tree c.world (node_of c.tree parent))) (parent_of c.tree.boxes at)
      (pos 0)
]

-- how far the baseline of a box is above that of its line: its own raise and those of the inline boxes around it
abbrev pub shift : InlineContext → ℕ → LineExtent → ℤ
shift c at e = shift_to (suc at) c at e

-- an inline box's baseline
abbrev pub inline_shift : InlineContext → ℕ → ℤ
inline_shift c at = shift c at (inline_extent c.tree c.world (node_of c.tree at))

-- ---- lines

-- above and below the line's baseline
abbrev pub extent_in_line : InlineContext → ℕ → LineExtent
extent_in_line c at = shifted (box_extent c at)
  where
    by : LineExtent → ℤ → LineExtent
    by e up = record { above = e.above +ℤ up; below = e.below -ℤ up }

    shifted : LineExtent → LineExtent
    shifted e = by e (shift c at e)

-- the strut: an empty inline box of the block container
abbrev pub strut : InlineContext → LineExtent
strut c = inline_extent c.tree c.world (node_of c.tree c.container)

-- a line reaches from the highest to the lowest of its inline boxes, its atomic boxes and the strut
abbrev pub line_extent : InlineContext → List ℕ → LineExtent
line_extent c boxes = record {
  above = greatest_from (strut c).above (map (λ at. (extent_in_line c at).above) boxes);
  below = greatest_from (strut c).below (map (λ at. (extent_in_line c at).below) boxes);
}

-- the inline boxes that start among the items, and the atomic boxes
abbrev pub extended_boxes : List Item → List ℕ
extended_boxes items = flat_map of_item items
  where
    of_item : Item → List ℕ
    of_item (start at) = at ∷ []
    of_item (atomic at) = at ∷ []
    of_item _ = []

-- the height of the tallest line that the content could make, at least 1/64
-- px: our own reading of which floats a line is beside
abbrev pub tallest : InlineContext → ℤ
tallest c = int_max (pos 1) (height_of_extent (line_extent c (extended_boxes (content c.tree c.container))))
