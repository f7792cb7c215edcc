-- Pages whose renderings are worked out by hand, in a viewport of 320px by 600px, where nothing else is said, at a
-- default font size of 16px: in `body`, without margins, in `html`. Each letter of the font is half an em wide, its ascent is 0.8em and its descent 0.2em.
use Rattle.std.specs.Prelude.{ℕ, ◌*◌, ℤ, pos, true, false, List, [], ◌∷◌, map, flat_map, replicate, Option, Some, None, codes}
use Rattle.viz_base.specs.declared.lengths.Length.{Length}
use Rattle.viz_base.specs.declared.lengths.Length.TheVariants as of_length
use Rattle.viz_base.specs.declared.lengths.LineHeight.TheVariants as of_line
use Rattle.viz_base.specs.declared.lengths.Sides.{Sides}
use Rattle.viz_base.specs.declared.lengths.Size.TheVariants as of_size
use Rattle.viz_base.specs.declared.lengths.Valign.TheVariants as of_valign
use Rattle.viz_base.specs.declared.renderings.Placed.{Placed}
use Rattle.viz_base.specs.declared.renderings.Quad.{Quad}
use Rattle.viz_base.specs.declared.styles.Align.TheVariants as of_align
use Rattle.viz_base.specs.declared.styles.Clear.TheVariants as of_clear
use Rattle.viz_base.specs.declared.styles.Display.TheVariants as of_display
use Rattle.viz_base.specs.declared.styles.Side.TheVariants as of_side
use Rattle.viz_base.specs.declared.trees.BoxNode.{BoxNode}
use Rattle.viz_base.specs.declared.trees.Kind.{Kind}
use Rattle.viz_base.specs.declared.trees.Kind.TheVariants as of_kind
use Rattle.viz_base.specs.declared.worlds.World.{World}
use Rattle.viz_base.specs.Styles.{nothing}
use Rattle.layout_semantics.specs.Page.{page_rendering}
use Rattle.layout_semantics.specs.PlainPages.{PlainStyle, PlainFont, PlainTree, TreeKeeps, tree}

-- ---- styles

abbrev pub sides : Length → Length → Length → Length → Sides Length
sides top right bottom left = record { top = top; right = right; bottom = bottom; left = left }

abbrev pub none_on_sides : Sides Length
none_on_sides = sides nothing nothing nothing nothing

-- so many pixels
abbrev pub px : ℕ → Length
px n = of_length.Px (pos (64 * n))

abbrev pub percent : ℕ → Length
percent n = of_length.Pct (pos (1000000 * n))

-- a block with initial values
abbrev pub block_style : PlainStyle
block_style = record {
  display = of_display.Block;
  float = None;
  clear = of_clear.Nothing;
  clips = false;
  width = of_length.Auto;
  min_width = nothing;
  max_width = None;
  height = of_length.Auto;
  min_height = nothing;
  max_height = None;
  margin = none_on_sides;
  padding = none_on_sides;
  border = none_on_sides;
  size = of_size.Same;
  font = 0;
  line = of_line.Own (pos 6) 5;
  valign = of_valign.Baseline;
  align = of_align.Left;
  wraps = true;
}

abbrev pub square : PlainFont
square = record { name = codes "Square"; upem = 1000; ascent = 800; descent = 200; other = 500; advances = [] }

-- ---- boxes, each with its node and the box that it is in

abbrev pub container : Kind → ℕ → Option ℕ → List ℕ → BoxNode
container kind node parent kids =
    record {
      kind = kind;
      node = node;
      parent = parent;
      kids = kids;
      chars = [];
      size = None;
      context = false;
      block_level = false;
    }

abbrev pub root_box : List ℕ → BoxNode
root_box kids = record (container of_kind.Block 0 None kids) { context = true; block_level = true }

abbrev pub block_box : ℕ → ℕ → List ℕ → BoxNode
block_box node parent kids = record (container of_kind.Block node (Some parent) kids) { block_level = true }

abbrev pub context_box : ℕ → ℕ → List ℕ → BoxNode
context_box node parent kids =
    record (container of_kind.Block node (Some parent) kids) { context = true; block_level = true }

abbrev pub floated_box : ℕ → ℕ → List ℕ → BoxNode
floated_box node parent kids =
    record (container of_kind.Float node (Some parent) kids) { context = true; block_level = true }

abbrev pub inline_box : ℕ → ℕ → List ℕ → BoxNode
inline_box node parent kids = container of_kind.Inline node (Some parent) kids

abbrev pub inline_block_box : ℕ → ℕ → List ℕ → BoxNode
inline_block_box node parent kids = record (container of_kind.Atomic node (Some parent) kids) { context = true }

abbrev pub text_box : ℕ → ℕ → List ℕ → BoxNode
text_box node parent chars = record (container of_kind.Chars node (Some parent) []) { chars = chars }

abbrev pub image_box : ℕ → ℕ → ℕ → ℕ → BoxNode
image_box node parent width height =
    record (container of_kind.Replaced node (Some parent) []) { size = Some (width, height) }

-- so many letters `a`
abbrev pub letters : ℕ → List ℕ
letters n = replicate n 97

-- `html` of a style with `body` in it, and the boxes and styles of what is in that; each node has one box
abbrev pub styled_page : PlainStyle → List ℕ → List BoxNode → List PlainStyle → PlainTree
styled_page html kids boxes styles = by_boxes (root_box (1 ∷ []) ∷ block_box 1 0 kids ∷ boxes)
  where
    by_boxes : List BoxNode → PlainTree
    by_boxes all = record {
      boxes = all;
      styles = record html { size = of_size.Default (pos 1) 1 } ∷ block_style ∷ styles;
      fonts = square ∷ [];
      parents = map (λ (b : BoxNode). b.parent) all;
    }

abbrev pub page : List ℕ → List BoxNode → List PlainStyle → PlainTree
page kids boxes styles = styled_page block_style kids boxes styles

-- ---- renderings

abbrev pub edges : ℕ → ℕ → ℕ → ℕ → Quad ℤ
edges left top right bottom = record { left = pos left; top = pos top; right = pos right; bottom = pos bottom }

-- the world of a viewport of 320px by so many
abbrev pub so_high : ℕ → World
so_high height = record { w = 320; s = 16; h = height }

-- the border rectangles of a page's rendering at a world
abbrev pub border_boxes_at : World → (t : PlainTree) → TreeKeeps t → List (Quad ℤ)
border_boxes_at w t ok = map (λ (p : Placed ℤ). p.border) (page_rendering (tree t ok) w).boxes

abbrev pub border_boxes : (t : PlainTree) → TreeKeeps t → List (Quad ℤ)
border_boxes t ok = border_boxes_at (so_high 600) t ok

-- the margin, border, padding and content rectangles
abbrev pub rectangles : (t : PlainTree) → TreeKeeps t → List (Quad ℤ)
rectangles t ok =
    flat_map (λ (p : Placed ℤ). p.margin ∷ p.border ∷ p.padding ∷ p.content ∷ [])
    (page_rendering (tree t ok) (so_high 600)).boxes

-- ---- pages

-- the first block has a bottom margin of 20px, the second a top margin of 30px
abbrev pub margins_of_two_blocks : PlainTree
margins_of_two_blocks = page (2 ∷ 3 ∷ [])
    (block_box 2 1 [] ∷ block_box 3 1 [] ∷ [])
    (record block_style
    { height = (of_length.Px (pos 640)); margin = (sides nothing nothing (of_length.Px (pos 1280)) nothing) }
    ∷ record block_style {
      height = (of_length.Px (pos 640));
      margin = (sides (of_length.Px (pos 1920)) nothing nothing nothing);
    } ∷ [])

-- between two blocks of 10px one without height has margins of 10px above and 30px below
abbrev pub empty_block_between : PlainTree
empty_block_between = page (2 ∷ 3 ∷ 4 ∷ [])
    (block_box 2 1 [] ∷ block_box 3 1 [] ∷ block_box 4 1 [] ∷ [])
    (record block_style { height = (of_length.Px (pos 640)) }
    ∷ record block_style { margin = (sides (of_length.Px (pos 640)) nothing (of_length.Px (pos 1920)) nothing) }
    ∷ record block_style { height = (of_length.Px (pos 640)) } ∷ [])

-- four letters
abbrev pub one_word : PlainTree
one_word = page (2 ∷ [])
    (text_box 2 1 (letters 4) ∷ [])
    (block_style ∷ [])

-- two letters, and one in a `sup`
abbrev pub superscript : PlainTree
superscript = page (2 ∷ [])
    (block_box 2 1 (3 ∷ 4 ∷ []) ∷ text_box 3 2 (letters 2) ∷ inline_box 4 2 (5 ∷ []) ∷ text_box 5 4 (letters 1) ∷ [])
    (block_style ∷ block_style
    ∷ record block_style {
      display = of_display.Inline;
      size = of_size.Parent (pos 830000) 1000000;
      valign = of_valign.Super;
    } ∷ record block_style { display = of_display.Inline; valign = of_valign.Super }
    ∷ [])

-- a block with a top margin of 10px that holds a float, and a paragraph with one of 20px
abbrev pub float_between_margins : PlainTree
float_between_margins = page (2 ∷ 4 ∷ [])
    (block_box 2 1 (3 ∷ []) ∷ floated_box 3 2 [] ∷ block_box 4 1 (5 ∷ []) ∷ text_box 5 4 (letters 1) ∷ [])
    (record block_style { margin = (sides (of_length.Px (pos 640)) nothing nothing nothing) }
    ∷ record block_style {
      float = Some of_side.Left;
      width = (of_length.Px (pos 1920));
      height = (of_length.Px (pos 640));
    }
    ∷ record block_style { margin = (sides (of_length.Px (pos 1280)) nothing nothing nothing) }
    ∷ record block_style { margin = (sides (of_length.Px (pos 1280)) nothing nothing nothing) } ∷ [])

-- a float, a block with `clear: both`, and a paragraph with a top margin of 20px
abbrev pub cleared_block : PlainTree
cleared_block = page (2 ∷ 3 ∷ 4 ∷ [])
    (floated_box 2 1 [] ∷ block_box 3 1 [] ∷ block_box 4 1 (5 ∷ []) ∷ text_box 5 4 (letters 1) ∷ [])
    (record block_style
    { float = Some of_side.Left; width = (of_length.Px (pos 6400)); height = (of_length.Px (pos 3200)) }
    ∷ record block_style { clear = of_clear.Both }
    ∷ record block_style { margin = (sides (of_length.Px (pos 1280)) nothing nothing nothing) }
    ∷ record block_style { margin = (sides (of_length.Px (pos 1280)) nothing nothing nothing) } ∷ [])

-- three left floats of 40% each
abbrev pub three_floats : PlainTree
three_floats = page (2 ∷ 3 ∷ 4 ∷ [])
    (floated_box 2 1 [] ∷ floated_box 3 1 [] ∷ floated_box 4 1 [] ∷ [])
    (record block_style
    { float = Some of_side.Left; width = (of_length.Pct (pos 40000000)); height = (of_length.Px (pos 640)) }
    ∷ record block_style {
      float = Some of_side.Left;
      width = (of_length.Pct (pos 40000000));
      height = (of_length.Px (pos 640));
    }
    ∷ record block_style {
      float = Some of_side.Left;
      width = (of_length.Pct (pos 40000000));
      height = (of_length.Px (pos 640));
    } ∷ [])

-- a right float, and a left float that is wider than the page
abbrev pub wide_float : PlainTree
wide_float = page (2 ∷ 3 ∷ [])
    (floated_box 2 1 [] ∷ floated_box 3 1 [] ∷ [])
    (record block_style
    { float = Some of_side.Right; width = (of_length.Px (pos 3200)); height = (of_length.Px (pos 1280)) }
    ∷ record block_style {
      float = Some of_side.Left;
      width = (of_length.Px (pos 25600));
      height = (of_length.Px (pos 640));
    } ∷ [])

-- a float, and a word that is wider than the page
abbrev pub long_word : PlainTree
long_word = page (2 ∷ 3 ∷ [])
    (floated_box 2 1 [] ∷ text_box 3 1 (letters 45) ∷ [])
    (record block_style
    { float = Some of_side.Left; width = (of_length.Px (pos 6400)); height = (of_length.Px (pos 3200)) }
    ∷ block_style ∷ [])

-- a word, and a float for which its line has one unit too little room
abbrev pub waiting_float : PlainTree
waiting_float = page (2 ∷ 3 ∷ [])
    (text_box 2 1 (codes "aaaa ") ∷ floated_box 3 1 [] ∷ [])
    (block_style ∷ record block_style
    { float = Some of_side.Left; width = (of_length.Px (pos 18433)); height = (of_length.Px (pos 640)) } ∷ [])

-- a float with two words, in a block of 60px
abbrev pub shrunk_float : PlainTree
shrunk_float = page (2 ∷ [])
    (block_box 2 1 (3 ∷ []) ∷ floated_box 3 2 (4 ∷ []) ∷ text_box 4 3 (codes "aaaa aaaa") ∷ [])
    (record block_style { width = (of_length.Px (pos 3840)) } ∷ record block_style { float = Some of_side.Left }
    ∷ record block_style { float = Some of_side.Left } ∷ [])

-- two letters, and an inline-block that clips its content
abbrev pub clipped_inline_block : PlainTree
clipped_inline_block = page (2 ∷ [])
    (block_box 2 1 (3 ∷ 4 ∷ []) ∷ text_box 3 2 (letters 2) ∷ inline_block_box 4 2 (5 ∷ []) ∷ text_box 5 4 (letters 1)
    ∷ [])
    (block_style ∷ block_style ∷ record block_style { display = of_display.InlineBlock; clips = true }
    ∷ record block_style { display = of_display.InlineBlock; clips = true } ∷ [])

-- a float, and a block that clips its content
abbrev pub clipped_block : PlainTree
clipped_block = page (2 ∷ 3 ∷ [])
    (floated_box 2 1 [] ∷ context_box 3 1 [] ∷ [])
    (record block_style
    { float = Some of_side.Left; width = (of_length.Px (pos 6400)); height = (of_length.Px (pos 3200)) }
    ∷ record block_style { clips = true; height = (of_length.Px (pos 640)) } ∷ [])

-- an image of 800 by 600 px with `max-width: 100%`
abbrev pub wide_image : PlainTree
wide_image = page (2 ∷ [])
    (image_box 2 1 800 600 ∷ [])
    (record block_style { display = of_display.Inline; max_width = Some (of_length.Pct (pos 100000000)) } ∷ [])
