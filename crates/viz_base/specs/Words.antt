-- The words of texts with the sums of their advances, as a box tree keeps them.
use Rattle.std.specs.Prelude.{ℕ, ◌==◌, Bool, ℤ, pos, sum_by, map, List, Option, slice_get}
use Rattle.std.specs.List.{slice_split}
use Rattle.std.specs.Option.{option_map_or, option_and_then}
use Rattle.std.specs.Str.{chars}
use Rattle.viz_base.specs.FontSizes.{advance}
use Rattle.viz_base.specs.declared.fonts.Font.{Font}
use Rattle.viz_base.specs.declared.styles.Style.{Style}
use Rattle.viz_base.specs.declared.trees.BoxNode.{BoxNode}
use Rattle.viz_base.specs.declared.trees.Word.{Word}

-- the font of a node
abbrev pub font_in : List Style → List Font → ℕ → Option Font
font_in styles fonts node = option_and_then (λ (style : Style). slice_get fonts style.font) (slice_get styles node)

-- the sum of the advances of letters in a font, in units of its em square
abbrev pub units_in : Option Font → List ℕ → ℤ
units_in font letters = option_map_or (λ (f : Font). pos (sum_by (advance f) letters)) font (pos 0)

abbrev pub word_in : Option Font → List ℕ → Word
word_in font letters = record { letters = letters; units = units_in font letters }

abbrev pub is_space : ℕ → Bool
is_space c = c == 32

-- what stands before, between and behind the spaces of a text
abbrev pub words_in : Option Font → List ℕ → List Word
words_in font text = map (word_in font) (slice_split is_space text)

-- for each box the words of its text
unfoldable pub words_of : List BoxNode → List Style → List Font → List (List Word)
words_of boxes styles fonts = map (λ (b : BoxNode). words_in (font_in styles fonts b.node) (chars b.chars)) boxes
