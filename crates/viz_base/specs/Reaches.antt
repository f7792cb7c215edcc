-- How far the boxes of a page can come to lie from the origin: bounds on lengths at the largest default font size,
-- 256 px. They are our own; a page is refused where they pass 2^40 units.
use Rattle.std.specs.Prelude.{ℕ, zero, suc, ◌+◌, ◌-◌, ◌*◌, ◌/◌, ◌^◌, min, max, nat_lt, ◌==◌, Bool, true, false, ◌||◌, unsigned_abs, List, [], ◌∷◌, ◌++◌, map, length, sum, position, slice_get, chars, Option, Some, None, option_map, option_and_then, option_to_list, if◌then◌else◌}
use Rattle.std.specs.List.{enumerate_from}
use Rattle.std.specs.Option.{option_map_or, option_or}
use Rattle.viz_base.specs.Styles.{sides_of}
use Rattle.viz_base.specs.declared.fonts.Font.{Font}
use Rattle.viz_base.specs.declared.lengths.Length.{Length}
use Rattle.viz_base.specs.declared.lengths.Length.TheVariants as of_length
use Rattle.viz_base.specs.declared.lengths.Valign.{Valign}
use Rattle.viz_base.specs.declared.lengths.Valign.TheVariants as of_valign
use Rattle.viz_base.specs.declared.styles.Style.{Style}
use Rattle.viz_base.specs.declared.trees.BoxNode.{BoxNode}
use Rattle.viz_base.specs.declared.trees.Kind.{Kind}
use Rattle.viz_base.specs.declared.trees.Kind.TheVariants as of_kind
use Rattle.viz_base.specs.FontSizes.{fraction, font_size_in, em_in, line_height_in, ascent_in, descent_in, text_width_in}

-- the largest default font size, in whole pixels
abbrev pub largest_size : ℕ
largest_size = 256

-- 100%, in millionths of a hundredth
abbrev pub whole : ℕ
whole = 100000000

-- a quotient rounded up
abbrev pub quotient_up : ℕ → ℕ → ℕ
quotient_up a d = (a + (d - 1)) / d

-- boxes of elements, a forced line break's too
abbrev pub is_of_element : Kind → Bool
is_of_element of_kind.Chars = false
is_of_element of_kind.Anon = false
is_of_element of_kind.Line = false
is_of_element _ = true

-- how many times the lesser intrinsic size of a replaced box goes into the
-- greater, rounded up; 1 where one of them is 0
abbrev pub ratio : Option (ℕ × ℕ) → ℕ
ratio None = 1
ratio (Some size) = if size.0 == 0 || size.1 == 0 then 1 else quotient_up (max size.0 size.1) (min size.0 size.1)

abbrev pub intrinsic_extent : Option (ℕ × ℕ) → ℕ
intrinsic_extent None = 0
intrinsic_extent (Some size) = 64 * size.0 + 64 * size.1

-- the lengths of a style but for its raise
abbrev pub lengths_of : Style → List Length
lengths_of s =
    s.width ∷ s.min_width ∷ s.height ∷ s.min_height ∷ (option_to_list s.max_width ++ (option_to_list s.max_height
    ++ (sides_of s.margin ++ (sides_of s.padding ++ sides_of s.border))))

-- a percentage without its sign
abbrev pub percentage : Length → ℕ
percentage (of_length.Pct p) = unsigned_abs p
percentage _ = 0

-- what the percentages of a style can make of its containing block's extent, in millionths of a hundredth
abbrev pub growth : Style → ℕ
growth s =
    max whole (max (percentage s.width)
    (max (percentage s.min_width) (max (percentage s.height) (percentage s.min_height))))
    + sum (map percentage (sides_of s.margin ++ sides_of s.padding))

abbrev pub box_growth : List Style → BoxNode → ℕ
box_growth styles b = if is_of_element b.kind then option_map_or growth (slice_get styles b.node) whole else whole

module _ (styles : List Style) (parents : List (Option ℕ)) (fonts : List Font) where
  -- an absolute length or one in em, without its sign
  abbrev pub extent : Length → ℕ
  extent of_length.Auto = 0
  extent (of_length.Px c) = unsigned_abs c
  extent (of_length.Em k node) = unsigned_abs (em_in styles parents largest_size k node)
  extent (of_length.Pct p) = 0

  -- a raise by a length, or by a percentage of the line height, without its sign
  abbrev pub raise_extent : ℕ → Valign → ℕ
  raise_extent node (of_valign.Raise (of_length.Pct p)) =
      unsigned_abs (fraction p whole (line_height_in styles parents largest_size node))
  raise_extent node (of_valign.Raise l) = extent l
  raise_extent node _ = 0

  -- font size, line height, ascent and descent
  abbrev pub font_extent : ℕ → ℕ
  font_extent node =
      unsigned_abs (font_size_in styles parents largest_size node)
      + unsigned_abs (line_height_in styles parents largest_size node)
      + (unsigned_abs (ascent_in styles parents fonts largest_size node)
      + unsigned_abs (descent_in styles parents fonts largest_size node))

  abbrev pub style_extent : BoxNode → Style → ℕ
  style_extent b s =
      ratio b.size * (sum (map extent (lengths_of s)) + raise_extent b.node s.valign + font_extent b.node
      + intrinsic_extent b.size)

  -- the extent that a box has by itself
  abbrev pub own_extent : BoxNode → ℕ
  own_extent b = if is_of_element b.kind then option_map_or (style_extent b) (slice_get styles b.node) 0 else 0

  -- the widths of a text's characters, one by one
  abbrev pub text_extent : BoxNode → ℕ
  text_extent b = sum
      (map (λ c. unsigned_abs (text_width_in styles parents fonts largest_size b.node (c ∷ []))) (chars b.chars))

  -- the sums from the first number on
  abbrev pub sums : ℕ → List ℕ → List ℕ
  sums so_far [] = []
  sums so_far (x ∷ xs) = (so_far + x) ∷ sums (so_far + x) xs

  -- what all boxes have, together with a viewport of 16,384 px by 16,384 px
  abbrev pub box_extents : List BoxNode → List ℕ
  box_extents boxes = map (λ b. own_extent b + text_extent b) boxes

  abbrev pub total_extent : List BoxNode → ℕ
  total_extent boxes = 2 ^ 21 + sum (box_extents boxes)

  -- from what reaches so far, by a box's own percentages and extent
  abbrev pub reach_in : BoxNode → ℕ → ℕ
  reach_in b around = quotient_up (around * ratio b.size * box_growth styles b) whole + own_extent b

  -- the reach of a box that is so many levels deep, at most
  abbrev pub reach_to : ℕ → List BoxNode → ℕ → ℕ → ℕ
  reach_to zero boxes viewport at = viewport
  reach_to (suc levels) boxes viewport at =
      option_map_or (λ (b : BoxNode). reach_in b (option_map_or (reach_to levels boxes viewport) b.parent viewport))
      (slice_get boxes at) viewport

  -- the reaches of all boxes; the viewport's is the extent of all of them together
  abbrev pub reaches : List BoxNode → List ℕ
  reaches boxes = map (λ (e : ℕ × BoxNode). reach_to (length boxes) boxes (total_extent boxes) e.0)
      (enumerate_from 0 boxes)

  abbrev pub passes_most : ℕ → Bool
  passes_most = nat_lt (2 ^ 40)

  abbrev pub node_of_place : List BoxNode → ℕ → Option ℕ
  node_of_place boxes at = option_map (λ (b : BoxNode). b.node) (slice_get boxes at)

  -- the node of the first box with which the extents together pass 2^40
  -- units; without one, of the first whose reach does
  abbrev pub beyond_reach : List BoxNode → Option ℕ
  beyond_reach boxes =
      option_and_then (node_of_place boxes)
      (option_or (position passes_most (sums (2 ^ 21) (box_extents boxes))) (position passes_most (reaches boxes)))
