-- Font sizes, line heights and the widths of texts (CSS 2.1, 10.8.1, 15.7), of nodes by their styles, parents and
-- fonts. Lengths are whole numbers of 1/64 px, and each fraction of one is rounded down: our own reading.
use Rattle.std.specs.Prelude.{ℕ, zero, suc, ◌*◌, ◌==◌, slice_get, ℤ, pos, ◌*ℤ◌, sum_by, List, Option}
use Rattle.std.specs.List.{find}
use Rattle.std.specs.Option.{option_map_or, option_and_then}
use Rattle.viz_base.specs.Numbers.{floor_of}
use Rattle.viz_base.specs.declared.fonts.Font.{Font}
use Rattle.viz_base.specs.declared.lengths.LineHeight.{LineHeight}
use Rattle.viz_base.specs.declared.lengths.LineHeight.TheVariants as of_line
use Rattle.viz_base.specs.declared.lengths.Size.{Size}
use Rattle.viz_base.specs.declared.lengths.Size.TheVariants as of_size
use Rattle.viz_base.specs.declared.styles.Style.{Style}

-- `num` parts of `den` of a length
abbrev pub fraction : ℤ → ℕ → ℤ → ℤ
fraction num den length = floor_of (num *ℤ length) den

-- ---- font sizes

-- the default font size, of so many pixels
abbrev pub default_size : ℕ → ℤ
default_size s = pos (64 * s)

abbrev pub parent_in : List (Option ℕ) → ℕ → Option ℕ
parent_in parents node = option_and_then (λ parent. parent) (slice_get parents node)

-- a font size where the parent's is `above` (CSS 2.1, 15.7)
abbrev pub computed_size : ℕ → ℤ → Size → ℤ
computed_size s above of_size.Same = above
computed_size s above (of_size.Default num den) = fraction num den (default_size s)
computed_size s above (of_size.Px c) = c
computed_size s above (of_size.Parent num den) = fraction num den above

-- down so many levels of the tree
unfoldable pub font_size_to : ℕ → List Style → List (Option ℕ) → ℕ → ℕ → ℤ
font_size_to zero styles parents s node = default_size s
font_size_to (suc levels) styles parents s node =
    let above = option_map_or (font_size_to levels styles parents s) (parent_in parents node) (default_size s) in
    option_map_or (λ (style : Style). computed_size s above style.size) (slice_get styles node) above

-- the font size of a node; where there is no parent the default size stands for the parent's.
-- A node's number is greater than its parent's, so there are no more levels than its number and one.
abbrev pub font_size_in : List Style → List (Option ℕ) → ℕ → ℕ → ℤ
font_size_in styles parents s node = font_size_to (suc node) styles parents s node

-- so many millionths of a node's font size (CSS 2.1, 4.3.2)
abbrev pub em_in : List Style → List (Option ℕ) → ℕ → ℤ → ℕ → ℤ
em_in styles parents s k node = fraction k 1000000 (font_size_in styles parents s node)

-- ---- line heights (CSS 2.1, 10.8.1)

abbrev pub computed_line : List Style → List (Option ℕ) → ℕ → ℕ → LineHeight → ℤ
computed_line styles parents s node (of_line.Own num den) = fraction num den (font_size_in styles parents s node)
computed_line styles parents s node (of_line.Px c) = c
computed_line styles parents s node (of_line.OfNode from num den) =
    fraction num den (font_size_in styles parents s from)

abbrev pub line_height_in : List Style → List (Option ℕ) → ℕ → ℕ → ℤ
line_height_in styles parents s node =
    option_map_or (λ (style : Style). computed_line styles parents s node style.line) (slice_get styles node) (pos 0)

-- ---- fonts

-- so many units of a font's em square, at a font size
abbrev pub measured : Font → ℤ → ℕ → ℤ
measured font size units = fraction (pos units) font.upem size

-- a measure of a node's font at its font size
abbrev pub node_measure_in : List Style → List (Option ℕ) → List Font → ℕ → ℕ → (Font → ℕ) → ℤ
node_measure_in styles parents fonts s node units =
    option_map_or (λ font. measured font (font_size_in styles parents s node) (units font))
    (option_and_then (λ (style : Style). slice_get fonts style.font) (slice_get styles node)) (pos 0)

abbrev pub ascent_in : List Style → List (Option ℕ) → List Font → ℕ → ℕ → ℤ
ascent_in styles parents fonts s node = node_measure_in styles parents fonts s node (λ font. font.ascent)

abbrev pub descent_in : List Style → List (Option ℕ) → List Font → ℕ → ℕ → ℤ
descent_in styles parents fonts s node = node_measure_in styles parents fonts s node (λ font. font.descent)

-- the advance of a character: that of its entry, or the font's for all others
abbrev pub advance : Font → ℕ → ℕ
advance font c = option_map_or (λ entry. entry.1) (find (λ entry. entry.0 == c) font.advances) font.other

-- the width of a text as one word: the sum of its advances, and then the fraction
abbrev pub text_width_in : List Style → List (Option ℕ) → List Font → ℕ → ℕ → List ℕ → ℤ
text_width_in styles parents fonts s node text =
    node_measure_in styles parents fonts s node (λ font. sum_by (advance font) text)
