-- The walks over boxes that find the first with which a page reaches too far.
-- Each number is the exact one, or stands for all that are past 2^40.
use Rattle.std.specs.Prelude.{ℕ, ◌+◌, ◌*◌, ◌^◌, ◌≤◌, nat_le, nat_lt, unsigned_abs, pos, ℤ, List, [], ◌∷◌, ◌++◌, slice_index_or, slice_get, chars, Option, Some, None, Result, Ok, Err, if◌then◌else◌}
use Rattle.std.specs.Option.{option_map_or}
use Rattle.viz_base.specs.declared.fonts.Font.{Font}
use Rattle.viz_base.specs.declared.lengths.Length.{Length}
use Rattle.viz_base.specs.declared.lengths.Length.TheVariants as of_length
use Rattle.viz_base.specs.declared.lengths.LineHeight.{LineHeight}
use Rattle.viz_base.specs.declared.lengths.LineHeight.TheVariants as of_line
use Rattle.viz_base.specs.declared.lengths.Sides.{Sides}
use Rattle.viz_base.specs.declared.lengths.Size.{Size}
use Rattle.viz_base.specs.declared.lengths.Size.TheVariants as of_size
use Rattle.viz_base.specs.declared.lengths.Valign.{Valign}
use Rattle.viz_base.specs.declared.lengths.Valign.TheVariants as of_valign
use Rattle.viz_base.specs.declared.styles.Style.{Style}
use Rattle.viz_base.specs.declared.trees.BoxNode.{BoxNode}
use Rattle.viz_base.specs.FontSizes.{fraction, advance}
use Rattle.viz_base.specs.Reaches.{whole, quotient_up, is_of_element, ratio, intrinsic_extent, box_growth}
use Rattle.viz_base.specs.Words.{font_in}
use Rattle.page_boxes.specs.steps.Tables.{held}

-- the most units that a page may reach
abbrev pub most : ℕ
most = 2 ^ 40

-- the number, or one past the most
abbrev pub capped : ℕ → ℕ
capped n = if nat_le n most then n else most + 1

-- a fraction of a length, without its sign
abbrev pub part_of : ℤ → ℕ → ℕ → ℕ
part_of num den length = capped (unsigned_abs (fraction num den (pos length)))

-- ---- font sizes

-- the default size of 256 px
abbrev pub default : ℕ
default = 16384

abbrev pub size_in : ℕ → Size → ℕ
size_in above of_size.Same = above
size_in above (of_size.Default num den) = part_of num den default
size_in above (of_size.Px c) = capped (unsigned_abs c)
size_in above (of_size.Parent num den) = part_of num den above

abbrev pub size_at : List ℕ → Option ℕ → ℕ
size_at sizes node = held sizes node default

abbrev pub sizes_walk : List ℕ → List (Option ℕ) → ℕ → List Style → List ℕ
sizes_walk sizes parents at [] = sizes
sizes_walk sizes parents at (s ∷ ss) =
    sizes_walk (sizes ++ size_in (size_at sizes (slice_index_or parents at None)) s.size ∷ []) parents (at + 1) ss

-- ---- extents

abbrev pub extent_in : List ℕ → Length → ℕ
extent_in sizes of_length.Auto = 0
extent_in sizes (of_length.Px c) = capped (unsigned_abs c)
extent_in sizes (of_length.Em k node) = part_of k 1000000 (size_at sizes (Some node))
extent_in sizes (of_length.Pct p) = 0

abbrev pub most_extent : List ℕ → Option Length → ℕ
most_extent sizes length = option_map_or (extent_in sizes) length 0

abbrev pub sides_extent : List ℕ → Sides Length → ℕ
sides_extent sizes s = extent_in sizes s.top + extent_in sizes s.right + extent_in sizes s.bottom
    + extent_in sizes s.left

abbrev pub lengths_extent : List ℕ → Style → ℕ
lengths_extent sizes s =
    extent_in sizes s.width + extent_in sizes s.min_width + extent_in sizes s.height + extent_in sizes s.min_height
    + most_extent sizes s.max_width + most_extent sizes s.max_height
    + sides_extent sizes s.margin + sides_extent sizes s.padding + sides_extent sizes s.border

abbrev pub line_in : List ℕ → ℕ → LineHeight → ℕ
line_in sizes node (of_line.Own num den) = part_of num den (size_at sizes (Some node))
line_in sizes node (of_line.Px c) = capped (unsigned_abs c)
line_in sizes node (of_line.OfNode from num den) = part_of num den (size_at sizes (Some from))

abbrev pub raise_in : List ℕ → ℕ → Valign → ℕ
raise_in sizes line (of_valign.Raise (of_length.Pct p)) = part_of p whole line
raise_in sizes line (of_valign.Raise l) = extent_in sizes l
raise_in sizes line _ = 0

abbrev pub measured_in : Font → ℕ → ℕ → ℕ
measured_in font size units = part_of (pos units) font.upem size

abbrev pub font_extent_in : ℕ → ℕ → Font → ℕ
font_extent_in size line font = size + line + measured_in font size font.ascent + measured_in font size font.descent

abbrev pub style_extent_in : List ℕ → Style → Font → BoxNode → ℕ
style_extent_in sizes s font b =
    let line = line_in sizes b.node s.line in
    capped (ratio b.size * (lengths_extent sizes s + raise_in sizes line s.valign
    + font_extent_in (size_at sizes (Some b.node)) line font + intrinsic_extent b.size))

abbrev pub own_in : List ℕ → List Style → List Font → BoxNode → ℕ
own_in sizes styles fonts b =
    if is_of_element b.kind then
    option_map_or (λ (s : Style). option_map_or (λ (font : Font). style_extent_in sizes s font b)
    (slice_get fonts s.font) 0) (slice_get styles b.node) 0
    else 0

abbrev pub widths_in : Font → ℕ → ℕ → List ℕ → ℕ
widths_in font size total [] = total
widths_in font size total (c ∷ cs) = widths_in font size (capped (total + measured_in font size (advance font c))) cs

abbrev pub text_in : List ℕ → List Style → List Font → BoxNode → ℕ
text_in sizes styles fonts b =
    option_map_or (λ font. widths_in font (size_at sizes (Some b.node)) 0 (chars b.chars))
    (font_in styles fonts b.node) 0

-- ---- the first box

-- the sum of all extents, or the node with which it passes the most
abbrev pub sum_walk : List ℕ → List Style → List Font → ℕ → List BoxNode → Result ℕ ℕ
sum_walk sizes styles fonts total [] = Ok total
sum_walk sizes styles fonts total (b ∷ bs) =
    let next = capped (total + own_in sizes styles fonts b + text_in sizes styles fonts b) in
    if nat_lt most next then Err b.node else sum_walk sizes styles fonts next bs

abbrev pub reach_of : List Style → BoxNode → ℕ → ℕ → ℕ
reach_of styles b own around = capped (quotient_up (around * ratio b.size * box_growth styles b) whole + own)

abbrev pub first_far : List ℕ → List Style → List Font → ℕ → List ℕ → List BoxNode → Option ℕ
first_far sizes styles fonts total reaches [] = None
first_far sizes styles fonts total reaches (b ∷ bs) =
    let reach = reach_of styles b (own_in sizes styles fonts b) (held reaches b.parent total) in
    if nat_lt most reach then Some b.node else first_far sizes styles fonts total (reaches ++ reach ∷ []) bs

abbrev pub far_by : List ℕ → List Style → List Font → List BoxNode → Result ℕ ℕ → Option ℕ
far_by sizes styles fonts boxes (Err node) = Some node
far_by sizes styles fonts boxes (Ok total) = first_far sizes styles fonts total [] boxes

abbrev pub far_of : List ℕ → List Style → List Font → List BoxNode → Option ℕ
far_of sizes styles fonts boxes = far_by sizes styles fonts boxes (sum_walk sizes styles fonts (2 ^ 21) boxes)

-- ---- bounds

abbrev pub AreCapped : List ℕ → Type 0
AreCapped sizes = (at : ℕ) → slice_index_or sizes at 0 ≤ most + 1
