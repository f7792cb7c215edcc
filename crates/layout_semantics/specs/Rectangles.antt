-- Boxes at their places, with their four rectangles (CSS 2.1, 8.1).
use Rattle.std.specs.Prelude.{ℕ, ℤ, ◌+ℤ◌, ◌-ℤ◌, List, map}
use Rattle.viz_base.specs.declared.layouts.Extent.{Extent}
use Rattle.viz_base.specs.declared.layouts.Spot.{Spot}
use Rattle.viz_base.specs.declared.layouts.Widths.{Widths}
use Rattle.viz_base.specs.declared.renderings.Placed.{Placed}
use Rattle.viz_base.specs.declared.renderings.Quad.{Quad}
use Rattle.viz_base.specs.declared.trees.Kind.{Kind}
use Rattle.viz_base.specs.declared.trees.BoxTree.{BoxTree}
use Rattle.layout_semantics.specs.Blocks.{kind_of, node_of}
use Rattle.layout_semantics.specs.Verticals.{Verticals}

-- ---- rectangles

-- a rectangle without a strip of these widths along its edges
abbrev pub inset : Quad ℤ → ℤ → ℤ → ℤ → ℤ → Quad ℤ
inset q left top right bottom =
    record { left = q.left +ℤ left; top = q.top +ℤ top; right = q.right -ℤ right; bottom = q.bottom -ℤ bottom }

-- with one around it
abbrev pub outset : Quad ℤ → ℤ → ℤ → ℤ → ℤ → Quad ℤ
outset q left top right bottom =
    record { left = q.left -ℤ left; top = q.top -ℤ top; right = q.right +ℤ right; bottom = q.bottom +ℤ bottom }

abbrev pub border_width : Widths ℤ → ℤ
border_width x = x.border_left +ℤ x.padding_left +ℤ x.content +ℤ x.padding_right +ℤ x.border_right

abbrev pub border_height : Verticals → ℤ → ℤ
border_height v content = v.border_top +ℤ v.padding_top +ℤ content +ℤ v.padding_bottom +ℤ v.border_bottom

-- the rectangles of a box from its border box
abbrev pub around : Kind → ℕ → Widths ℤ → Verticals → Quad ℤ → Placed ℤ
around kind node x v border = record {
  kind = kind;
  node = node;
  margin = outset border x.margin_left v.margin_top x.margin_right v.margin_bottom;
  border = border;
  padding = inset border x.border_left v.border_top x.border_right v.border_bottom;
  content = inset border (x.border_left +ℤ x.padding_left) (v.border_top +ℤ v.padding_top)
      (x.border_right +ℤ x.padding_right) (v.border_bottom +ℤ v.padding_bottom);
}

-- a box before its height is known: its used terms, and the top left corner of its border box
pub record Frame : Type 0 where
  pub x : Widths ℤ
  pub v : Verticals
  pub corner : Spot ℤ

abbrev pub content_top : Frame → ℤ
content_top f = f.corner.y +ℤ f.v.border_top +ℤ f.v.padding_top

-- with its content so high
abbrev pub placed_box : BoxTree → ℕ → Frame → ℤ → Placed ℤ
placed_box tree b f content = around (kind_of tree b) (node_of tree b) f.x f.v record {
  left = f.corner.x;
  top = f.corner.y;
  right = f.corner.x +ℤ border_width f.x;
  bottom = f.corner.y +ℤ border_height f.v content;
}

-- ---- shifts

abbrev pub shifted_quad : Spot ℤ → Quad ℤ → Quad ℤ
shifted_quad by q =
    record { left = q.left +ℤ by.x; top = q.top +ℤ by.y; right = q.right +ℤ by.x; bottom = q.bottom +ℤ by.y }

abbrev pub shifted_box : Spot ℤ → Placed ℤ → Placed ℤ
shifted_box by p =
    record {
      kind = p.kind;
      node = p.node;
      margin = shifted_quad by p.margin;
      border = shifted_quad by p.border;
      padding = shifted_quad by p.padding;
      content = shifted_quad by p.content;
    }

abbrev pub shifted : Spot ℤ → List (Placed ℤ) → List (Placed ℤ)
shifted by boxes = map (shifted_box by) boxes

-- the size of a box's outer box
abbrev pub outer_extent : Placed ℤ → Extent ℤ
outer_extent p = record { width = p.margin.right -ℤ p.margin.left; height = p.margin.bottom -ℤ p.margin.top }
