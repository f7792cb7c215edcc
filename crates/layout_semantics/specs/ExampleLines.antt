-- Worked pages, as those of Examples: text and the lines that it stands on (CSS 2.1, 10.8, 15 and 16).
use Rattle.std.specs.Prelude.{pos, false, [], ◌∷◌, codes}
use Rattle.viz_base.specs.declared.lengths.Size.TheVariants as of_size
use Rattle.viz_base.specs.declared.lengths.Valign.TheVariants as of_valign
use Rattle.viz_base.specs.declared.styles.Align.TheVariants as of_align
use Rattle.viz_base.specs.declared.styles.Display.TheVariants as of_display
use Rattle.layout_semantics.specs.PlainPages.{PlainTree}
use Rattle.layout_semantics.specs.Examples.{px, block_style, square, block_box, inline_box, text_box, letters, page}

-- four letters with `text-align: right`, and four with `text-align: center`
abbrev pub aligned_words : PlainTree
aligned_words = page (2 ∷ 4 ∷ [])
    (block_box 2 1 (3 ∷ []) ∷ text_box 3 2 (letters 4) ∷ block_box 4 1 (5 ∷ []) ∷ text_box 5 4 (letters 4) ∷ [])
    (record block_style { align = of_align.Right } ∷ record block_style { align = of_align.Right }
    ∷ record block_style { align = of_align.Center } ∷ record block_style { align = of_align.Center } ∷ [])

-- two letters, and one in a `sub`
abbrev pub subscript : PlainTree
subscript = page (2 ∷ [])
    (block_box 2 1 (3 ∷ 4 ∷ []) ∷ text_box 3 2 (letters 2) ∷ inline_box 4 2 (5 ∷ []) ∷ text_box 5 4 (letters 1) ∷ [])
    (block_style ∷ block_style
    ∷ record block_style {
      display = of_display.Inline;
      size = of_size.Parent (pos 830000) 1000000;
      valign = of_valign.Sub;
    } ∷ record block_style { display = of_display.Inline; valign = of_valign.Sub } ∷ [])

-- two words with `white-space: nowrap`, in a block of 40px
abbrev pub words_that_stay : PlainTree
words_that_stay = page (2 ∷ [])
    (block_box 2 1 (3 ∷ []) ∷ text_box 3 2 (codes "aaaa aaaa") ∷ [])
    (record block_style { width = px 40; wraps = false } ∷ record block_style { width = px 40; wraps = false } ∷ [])

-- two letters of a font whose `b` is as wide as the font size
abbrev pub wide_letter : PlainTree
wide_letter = record (page (2 ∷ []) (text_box 2 1 (codes "ab") ∷ []) (block_style ∷ []))
    { fonts = record square { advances = (98, 1000) ∷ [] } ∷ [] }
