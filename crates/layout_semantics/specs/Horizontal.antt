-- The used values of widths and horizontal margins (CSS 2.1, 10.3, 10.4).
use Rattle.std.specs.Prelude.{ℕ, ℤ, pos, ◌+ℤ◌, ◌-ℤ◌, int_le, Bool, true, false, ◌&&◌, Option, Some, None, if◌then◌else◌}
use Rattle.std.specs.Int.{int_max, int_min}
use Rattle.viz_base.specs.Numbers.{floor_of}
use Rattle.viz_base.specs.declared.layouts.Preferred.{Preferred}
use Rattle.viz_base.specs.declared.layouts.Widths.{Widths}
use Rattle.viz_base.specs.declared.lengths.Length.{Length}
use Rattle.viz_base.specs.declared.lengths.Length.TheVariants as of_length
use Rattle.viz_base.specs.declared.styles.Style.{Style}
use Rattle.viz_base.specs.declared.trees.BoxTree.{BoxTree}
use Rattle.viz_base.specs.declared.trees.Kind.{Kind}
use Rattle.viz_base.specs.declared.trees.Kind.TheVariants as of_kind
use Rattle.viz_base.specs.declared.worlds.World.{World}
use Rattle.viz_base.specs.Styles.{nothing}
use Rattle.layout_semantics.specs.Blocks.{kind_of}
use Rattle.layout_semantics.specs.Lengths.{used, used_unless_auto, maximum, own, margins, borders, paddings}
use Rattle.layout_semantics.specs.Replaced.{replaced_size}
use Rattle.layout_semantics.specs.InlineContent.{is_floated_at, is_inline_level_at}
use Rattle.layout_semantics.specs.Preferred.{preferred}

-- ---- the seven terms (CSS 2.1, 10.3.3)

-- the terms of a box around so wide a content, automatic margins being 0;
-- percentages are of the containing block's width
abbrev pub terms_around : BoxTree → World → ℕ → ℤ → ℤ → Widths ℤ
terms_around tree w at cb width = record {
  margin_left = used tree w (margins tree at).left cb;
  border_left = used tree w (borders tree at).left cb;
  padding_left = used tree w (paddings tree at).left cb;
  content = width;
  padding_right = used tree w (paddings tree at).right cb;
  border_right = used tree w (borders tree at).right cb;
  margin_right = used tree w (margins tree at).right cb;
}

abbrev pub sum_of : Widths ℤ → ℤ
sum_of t = t.margin_left
    +ℤ (t.border_left +ℤ (t.padding_left +ℤ (t.content +ℤ (t.padding_right +ℤ (t.border_right +ℤ t.margin_right)))))

-- what the containing block leaves for the content, and no less than 0 (our own reading)
abbrev pub available : BoxTree → World → ℕ → ℤ → ℤ
available tree w at cb = int_max (pos 0) (cb -ℤ sum_of (terms_around tree w at cb (pos 0)))

-- ---- blocks in normal flow

abbrev pub is_auto : Length → Bool
is_auto of_length.Auto = true
is_auto _ = false

-- the left margin where the other terms leave so much: two automatic margins share it equally, the left one rounded
-- down (our own reading), and one takes it all; where the terms are too wide an automatic margin is 0
abbrev pub left_margin : (left_auto right_auto fits : Bool) → ℤ → ℤ → ℤ
left_margin left_auto right_auto fits left_over given =
    if left_auto && fits then (if right_auto then floor_of left_over 2 else left_over) else given

-- the terms with another left margin, and the right margin that makes the sum the containing block's width
abbrev pub with_margins : Widths ℤ → ℤ → ℤ → Widths ℤ
with_margins t cb left =
    record t { margin_left = left; margin_right = cb -ℤ (sum_of t -ℤ t.margin_left -ℤ t.margin_right) -ℤ left }

-- of a fixed width
abbrev pub fixed_terms : BoxTree → World → ℕ → ℤ → ℤ → Widths ℤ
fixed_terms tree w at cb width =
    let t = terms_around tree w at cb width in
    let fits = int_le (sum_of t) cb in
    let left_over = cb -ℤ sum_of t in
    with_margins t cb
    (left_margin (is_auto (margins tree at).left) (is_auto (margins tree at).right) fits left_over t.margin_left)

-- of width `auto`: automatic margins are 0 and the width follows; where it would
-- be negative it is 0 and the right margin gives way (our own reading)
abbrev pub auto_terms : BoxTree → World → ℕ → ℤ → Widths ℤ
auto_terms tree w at cb =
    let t = terms_around tree w at cb (available tree w at cb) in
    with_margins t cb t.margin_left

abbrev pub block_terms : BoxTree → World → ℕ → ℤ → Option ℤ → Widths ℤ
block_terms tree w at cb None = auto_terms tree w at cb
block_terms tree w at cb (Some width) = fixed_terms tree w at cb width

-- ---- floats and atomic inline-level boxes (CSS 2.1, 10.3.5 to 10.3.10)

-- the available width, but no less than the preferred minimum width and no more than the preferred width
abbrev pub shrink_to_fit : Preferred ℤ → ℤ → ℤ
shrink_to_fit p room = int_min (int_max p.least room) p.most

-- automatic margins are 0
abbrev pub shrunk_terms : BoxTree → World → ℕ → ℤ → Option ℤ → Widths ℤ
shrunk_terms tree w at cb None =
    terms_around tree w at cb (shrink_to_fit (preferred tree w at) (available tree w at cb))
shrunk_terms tree w at cb (Some width) = terms_around tree w at cb width

-- ---- minima and maxima (CSS 2.1, 10.4)

-- the terms again with another width, where the tentative one isn't as it should be
abbrev pub again_unless : Bool → (Option ℤ → Widths ℤ) → ℤ → Widths ℤ → Widths ℤ
again_unless is_right terms width tentative = if is_right then tentative else terms (Some width)

abbrev pub at_most : (Option ℤ → Widths ℤ) → Option ℤ → Widths ℤ → Widths ℤ
at_most terms None t = t
at_most terms (Some most) t = again_unless (int_le t.content most) terms most t

abbrev pub at_least : (Option ℤ → Widths ℤ) → ℤ → Widths ℤ → Widths ℤ
at_least terms least t = again_unless (int_le least t.content) terms least t

-- with the width of the box's own property, then with its maximum where
-- that is less, and then with its minimum where that is more
abbrev pub clamped_terms : BoxTree → World → ℕ → ℤ → (Option ℤ → Widths ℤ) → Widths ℤ
clamped_terms tree w at cb terms =
    let width = used_unless_auto tree w (own tree at (λ (s : Style). s.width) of_length.Auto) cb in
    let most = maximum (λ length. used_unless_auto tree w length cb) (own tree at (λ (s : Style). s.max_width) None) in
    let least = used tree w (own tree at (λ (s : Style). s.min_width) nothing) cb in
    at_least terms least (at_most terms most (terms width))

-- ---- a box

-- how the terms of a box come about
pub data Placing : Type 0 where
  block_flow : Placing
  shrunk : Placing
  replaced_block : Placing
  replaced_shrunk : Placing

abbrev pub placing_of : BoxTree → ℕ → Placing
placing_of tree at = by_kind (kind_of tree at) (is_floated_at tree at) (is_inline_level_at tree at)
  where
    by_kind : Kind → Bool → Bool → Placing
    by_kind of_kind.Replaced false false = replaced_block
    by_kind of_kind.Replaced _ _ = replaced_shrunk
    by_kind of_kind.Float _ _ = shrunk
    by_kind of_kind.Atomic _ _ = shrunk
    by_kind _ _ _ = block_flow

-- the used values of a block in normal flow that isn't replaced
abbrev pub flow_widths : BoxTree → World → ℕ → ℤ → Widths ℤ
flow_widths tree w at cb = clamped_terms tree w at cb (block_terms tree w at cb)

-- the used values of a box in a containing block of width `cb`
unfoldable pub widths : BoxTree → World → ℕ → ℤ → Widths ℤ
widths tree w at cb = elim (placing_of tree at) [
  | block_flow ↦ flow_widths tree w at cb
  | shrunk ↦ clamped_terms tree w at cb (shrunk_terms tree w at cb)
  | replaced_block ↦ fixed_terms tree w at cb (replaced_size tree w at cb).width
  | replaced_shrunk ↦ terms_around tree w at cb (replaced_size tree w at cb).width
]
