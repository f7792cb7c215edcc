-- Worked pages, as those of Examples: what parts margins that would adjoin (CSS 2.1, 8.3.1).
use Rattle.std.specs.Prelude.{[], ◌∷◌, Some}
use Rattle.viz_base.specs.declared.styles.Clear.TheVariants as of_clear
use Rattle.viz_base.specs.declared.styles.Side.TheVariants as of_side
use Rattle.viz_base.specs.Styles.{nothing}
use Rattle.layout_semantics.specs.PlainPages.{PlainTree}
use Rattle.layout_semantics.specs.Examples.{sides, px, block_style, block_box, floated_box, page}

-- a block with a padding of 5px above, in which one has a top margin of 20px
abbrev pub padding_between_margins : PlainTree
padding_between_margins = page (2 ∷ [])
    (block_box 2 1 (3 ∷ []) ∷ block_box 3 2 [] ∷ [])
    (record block_style { padding = sides (px 5) nothing nothing nothing }
    ∷ record block_style { height = px 10; margin = sides (px 20) nothing nothing nothing } ∷ [])

-- between two blocks of 10px an empty one with a minimum height of 20px and margins of 10px above and 30px below
abbrev pub minimum_between_margins : PlainTree
minimum_between_margins = page (2 ∷ 3 ∷ 4 ∷ [])
    (block_box 2 1 [] ∷ block_box 3 1 [] ∷ block_box 4 1 [] ∷ [])
    (record block_style { height = px 10 }
    ∷ record block_style { min_height = px 20; margin = sides (px 10) nothing (px 30) nothing }
    ∷ record block_style { height = px 10 } ∷ [])

-- a block with a minimum height of 5px that holds one of 10px with a bottom margin of 20px, and a block after it
abbrev pub minimum_keeps_last_margin : PlainTree
minimum_keeps_last_margin = page (2 ∷ 4 ∷ [])
    (block_box 2 1 (3 ∷ []) ∷ block_box 3 2 [] ∷ block_box 4 1 [] ∷ [])
    (record block_style { min_height = px 5 }
    ∷ record block_style { height = px 10; margin = sides nothing nothing (px 20) nothing }
    ∷ record block_style { height = px 10 } ∷ [])

-- a block that holds a float and an empty block with `clear: left` and a
-- bottom margin of 20px, and a block with a top margin of 30px
abbrev pub cleared_last_block : PlainTree
cleared_last_block = page (2 ∷ 5 ∷ [])
    (block_box 2 1 (3 ∷ 4 ∷ []) ∷ floated_box 3 2 [] ∷ block_box 4 2 [] ∷ block_box 5 1 [] ∷ [])
    (block_style ∷ record block_style { float = Some of_side.Left; width = px 100; height = px 50 }
    ∷ record block_style { clear = of_clear.Left; margin = sides nothing nothing (px 20) nothing }
    ∷ record block_style { height = px 10; margin = sides (px 30) nothing nothing nothing } ∷ [])
