-- The terms of a box in the order in which they are computed: its edges once, and then the width that they are around.
use Rattle.std.specs.Prelude.{ℕ, ◌*◌, ℤ, pos, ◌-ℤ◌, int_le, Bool, false, cond, Option, Some, None, unwrap_or, option_and_then}
use Rattle.std.specs.Int.{int_max}
use Rattle.std.specs.Option.{option_map_or}
use Rattle.viz_base.specs.declared.layouts.Widths.{Widths}
use Rattle.viz_base.specs.declared.layouts.Preferred.{Preferred}
use Rattle.viz_base.specs.declared.lengths.Length.{Length}
use Rattle.viz_base.specs.declared.lengths.Length.TheVariants as of_length
use Rattle.viz_base.specs.declared.trees.BoxTree.{BoxTree}
use Rattle.viz_base.specs.declared.worlds.World.{World}
use Rattle.layout_semantics.specs.Lengths.{used, margins}
use Rattle.layout_semantics.specs.Horizontal.{sum_of, with_margins, left_margin, is_auto, shrink_to_fit}
use Rattle.layout_laws.specs.Terms.{own_maximum, own_minimum}
use Rattle.layout_semantics.specs.Replaced.{by_ratio}

-- edges around so wide a content
abbrev pub around : Widths ℤ → ℤ → Widths ℤ
around t width = record t { content = width }

-- what a containing block of width `cb` leaves between edges
abbrev pub room_between : Widths ℤ → ℤ → ℤ
room_between t cb = int_max (pos 0) (cb -ℤ sum_of t)

-- with this left margin, where the sum of the terms is `sum`
abbrev pub with_left : Widths ℤ → ℤ → ℤ → ℤ → Widths ℤ
with_left t cb sum left =
    record t { margin_left = left; margin_right = cb -ℤ (sum -ℤ t.margin_left -ℤ t.margin_right) -ℤ left }

-- terms of a fixed width, with automatic margins or not
abbrev pub fixed_around : (left_auto right_auto : Bool) → Widths ℤ → ℤ → Widths ℤ
fixed_around left_auto right_auto t cb =
    with_margins t cb (left_margin left_auto right_auto (int_le (sum_of t) cb) (cb -ℤ sum_of t) t.margin_left)

-- the maximum, where the width is more
abbrev pub above : Option ℤ → ℤ → Option ℤ
above most width = option_and_then (λ m. cond (int_le width m) None (Some m)) most

-- the minimum, where what the maximum leaves is less, or that
abbrev pub below : ℤ → ℤ → Option ℤ → Option ℤ
below least width None = cond (int_le least width) None (Some least)
below least width (Some m) = cond (int_le least m) (Some m) (Some least)

-- the width that the terms are to be computed with again, where the tentative one isn't as it should be
abbrev pub again : Option ℤ → ℤ → ℤ → Option ℤ
again most least width = below least width (above most width)

-- the width of a replaced box before it is clamped
abbrev pub tentative : ℕ × ℕ → Option ℤ → Option ℤ → ℤ
tentative size width height = unwrap_or width (option_map_or (λ h. by_ratio h size.1 size.0) height (pos (64 * size.0)))

-- a width after the maximum and the minimum of a box
abbrev pub clamped_again : BoxTree → World → ℕ → ℤ → ℤ → ℤ
clamped_again tree w at cb width = unwrap_or (again (own_maximum tree w at cb) (own_minimum tree w at cb) width) width

-- the terms of a block of width `auto` with these edges
abbrev pub filled_block : BoxTree → World → ℕ → ℤ → Widths ℤ → Widths ℤ
filled_block tree w at cb edges =
    by_again (again (own_maximum tree w at cb) (own_minimum tree w at cb) (room_between edges cb))
  where
    by_again : Option ℤ → Widths ℤ
    by_again None = fixed_around false false (around edges (room_between edges cb)) cb
    by_again (Some width) =
        fixed_around (is_auto (margins tree at).left) (is_auto (margins tree at).right) (around edges width) cb

-- the terms of a block of this `width` with these edges
abbrev pub given_block : BoxTree → World → ℕ → ℤ → Length → Widths ℤ → Widths ℤ
given_block tree w at cb length edges =
    fixed_around (is_auto (margins tree at).left) (is_auto (margins tree at).right)
    (around edges (clamped_again tree w at cb (used tree w length cb))) cb

-- the width of a float or of an inline-block before it is clamped, by its own `width`
abbrev pub fitted_by : BoxTree → World → Length → ℤ → Preferred ℤ → Widths ℤ → ℤ
fitted_by tree w of_length.Auto cb p edges = shrink_to_fit p (room_between edges cb)
fitted_by tree w length cb p edges = used tree w length cb
