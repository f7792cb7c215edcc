-- The edges of boxes, and their least heights, as CSS says them.
use Rattle.std.specs.Prelude.{◌≡◌, ◌≢◌, ℕ, ℤ, pos, ◌+ℤ◌, unwrap_or}
use Rattle.viz_base.specs.declared.lengths.Length.{Length}
use Rattle.viz_base.specs.declared.lengths.Length.TheVariants as of_length
use Rattle.viz_base.specs.declared.layouts.Widths.{Widths}
use Rattle.viz_base.specs.declared.renderings.Placed.{Placed}
use Rattle.viz_base.specs.declared.trees.BoxTree.{BoxTree}
use Rattle.viz_base.specs.declared.worlds.World.{World}
use Rattle.layout_semantics.specs.DefiniteHeights.{definite_height, height_around, least_height}
use Rattle.layout_semantics.specs.Verticals.{Verticals}

-- the edges of a box (CSS 2.1, 8.1): between its margin, border, padding and content
-- rectangles lie its margins, borders and paddings, and inside them the content
pub record HasEdges (x : Widths ℤ) (v : Verticals) (high : ℤ) (p : Placed ℤ) : Type 0 where
  pub margin_left : p.border.left ≡ p.margin.left +ℤ x.margin_left
  pub margin_top : p.border.top ≡ p.margin.top +ℤ v.margin_top
  pub margin_right : p.margin.right ≡ p.border.right +ℤ x.margin_right
  pub margin_bottom : p.margin.bottom ≡ p.border.bottom +ℤ v.margin_bottom
  pub border_left : p.padding.left ≡ p.border.left +ℤ x.border_left
  pub border_top : p.padding.top ≡ p.border.top +ℤ v.border_top
  pub border_right : p.border.right ≡ p.padding.right +ℤ x.border_right
  pub border_bottom : p.border.bottom ≡ p.padding.bottom +ℤ v.border_bottom
  pub padding_left : p.content.left ≡ p.padding.left +ℤ x.padding_left
  pub padding_top : p.content.top ≡ p.padding.top +ℤ v.padding_top
  pub padding_right : p.padding.right ≡ p.content.right +ℤ x.padding_right
  pub padding_bottom : p.padding.bottom ≡ p.content.bottom +ℤ v.padding_bottom
  pub width : p.content.right ≡ p.content.left +ℤ x.content
  pub height : p.content.bottom ≡ p.content.top +ℤ high

-- the used minimum height: a percentage of a height that is not definite is 0 (CSS 2.1, 10.7)
abbrev pub used_minimum : BoxTree → World → ℕ → ℤ
used_minimum tree w at =
    unwrap_or (height_around tree w (definite_height tree w at) (least_height tree at)) (pos 0)

-- an absolute length that is not zero: of pixels, or of a font size
abbrev pub IsNonzero : Length → Type 0
IsNonzero (of_length.Px c) = c ≢ pos 0
IsNonzero (of_length.Em k node) = k ≢ pos 0
IsNonzero _ = ⊥
