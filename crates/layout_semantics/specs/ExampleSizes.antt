-- Worked pages, as those of Examples: widths, heights, font sizes and rectangles (CSS 2.1, 8.1 and 10).
use Rattle.std.specs.Prelude.{pos, [], ◌∷◌, Some}
use Rattle.viz_base.specs.declared.lengths.Length.TheVariants as of_length
use Rattle.viz_base.specs.declared.lengths.Size.TheVariants as of_size
use Rattle.viz_base.specs.declared.styles.Display.TheVariants as of_display
use Rattle.viz_base.specs.declared.styles.Side.TheVariants as of_side
use Rattle.viz_base.specs.Styles.{nothing}
use Rattle.layout_semantics.specs.PlainPages.{PlainTree}
use Rattle.layout_semantics.specs.Examples.{sides, px, percent, block_style, block_box, floated_box, image_box, page, styled_page}

-- a block of 100px with automatic margins
abbrev pub centred_block : PlainTree
centred_block = page (2 ∷ [])
    (block_box 2 1 [] ∷ [])
    (record block_style
    { width = px 100; height = px 10; margin = sides nothing of_length.Auto nothing of_length.Auto } ∷ [])

-- in a block with a font size of 2em one that has 2em too, and is 1em wide and half an em high
abbrev pub em_of_em : PlainTree
em_of_em = page (2 ∷ [])
    (block_box 2 1 (3 ∷ []) ∷ block_box 3 2 [] ∷ [])
    (record block_style { size = of_size.Parent (pos 2) 1 }
    ∷ record block_style
    { size = of_size.Parent (pos 2) 1; width = of_length.Em (pos 1000000) 3; height = of_length.Em (pos 500000) 3 }
    ∷ [])

-- two images of 100 by 50 px, one with a width of 40px, the other with a height of 10px
abbrev pub two_images : PlainTree
two_images = page (2 ∷ 3 ∷ [])
    (image_box 2 1 100 50 ∷ image_box 3 1 100 50 ∷ [])
    (record block_style { display = of_display.Inline; width = px 40 }
    ∷ record block_style { display = of_display.Inline; height = px 10 } ∷ [])

-- in a block of 200px one with paddings of 10%, which holds one of 10px
abbrev pub percentage_paddings : PlainTree
percentage_paddings = page (2 ∷ [])
    (block_box 2 1 (3 ∷ []) ∷ block_box 3 2 (4 ∷ []) ∷ block_box 4 3 [] ∷ [])
    (record block_style { width = px 200 }
    ∷ record block_style { padding = sides (percent 10) (percent 10) (percent 10) (percent 10) }
    ∷ record block_style { height = px 10 } ∷ [])

-- in `body`, whose height is auto, a block with a height of 50% that holds one of 10px
abbrev pub percentage_of_auto : PlainTree
percentage_of_auto = page (2 ∷ [])
    (block_box 2 1 (3 ∷ []) ∷ block_box 3 2 [] ∷ [])
    (record block_style { height = percent 50 } ∷ record block_style { height = px 10 } ∷ [])

-- `html` has a height of 100%, and in `body` is a block of 10px
abbrev pub percentage_of_viewport : PlainTree
percentage_of_viewport = styled_page (record block_style { height = percent 100 }) (2 ∷ [])
    (block_box 2 1 [] ∷ [])
    (record block_style { height = px 10 } ∷ [])

-- a block with a minimum height of 30px that holds one of 10px
abbrev pub minimum_height : PlainTree
minimum_height = page (2 ∷ [])
    (block_box 2 1 (3 ∷ []) ∷ block_box 3 2 [] ∷ [])
    (record block_style { min_height = px 30 } ∷ record block_style { height = px 10 } ∷ [])

-- a float of 100px by 20px with margins of 1px to 4px, borders of 5px to
-- 8px and paddings of 9px to 12px, from the top clockwise
abbrev pub twelve_edges : PlainTree
twelve_edges = page (2 ∷ [])
    (floated_box 2 1 [] ∷ [])
    (record block_style {
      float = Some of_side.Left;
      width = px 100;
      height = px 20;
      margin = sides (px 1) (px 2) (px 3) (px 4);
      border = sides (px 5) (px 6) (px 7) (px 8);
      padding = sides (px 9) (px 10) (px 11) (px 12);
    } ∷ [])
