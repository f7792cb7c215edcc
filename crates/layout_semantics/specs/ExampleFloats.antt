-- Worked pages, as those of Examples: what `clear` looks at (CSS 2.1, 9.5.2).
use Rattle.std.specs.Prelude.{[], ◌∷◌, Some}
use Rattle.viz_base.specs.declared.styles.Clear.TheVariants as of_clear
use Rattle.viz_base.specs.declared.styles.Side.TheVariants as of_side
use Rattle.layout_semantics.specs.PlainPages.{PlainStyle, PlainTree}
use Rattle.layout_semantics.specs.Examples.{px, block_style, block_box, floated_box, page}

-- a left float of 100px by 50px
abbrev pub left_float : PlainStyle
left_float = record block_style { float = Some of_side.Left; width = px 100; height = px 50 }

-- a left float, a taller right one, and a block with `clear: left`
abbrev pub block_below_the_left_float : PlainTree
block_below_the_left_float = page (2 ∷ 3 ∷ 4 ∷ [])
    (floated_box 2 1 [] ∷ floated_box 3 1 [] ∷ block_box 4 1 [] ∷ [])
    (left_float ∷ record block_style { float = Some of_side.Right; width = px 100; height = px 80 }
    ∷ record block_style { clear = of_clear.Left; height = px 10 } ∷ [])

-- a left float, and another one with `clear: left`
abbrev pub cleared_float : PlainTree
cleared_float = page (2 ∷ 3 ∷ [])
    (floated_box 2 1 [] ∷ floated_box 3 1 [] ∷ [])
    (left_float ∷ record left_float { clear = of_clear.Left } ∷ [])
