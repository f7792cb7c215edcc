-- The sizes of replaced elements (CSS 2.1, 10.3.2, 10.4, 10.6.2).
use Rattle.std.specs.Prelude.{ℕ, zero, suc, ◌*◌, ℤ, pos, Option, None, unwrap_or, option_and_then}
use Rattle.std.specs.Option.{option_map_or}
use Rattle.viz_base.specs.declared.layouts.Extent.{Extent}
use Rattle.viz_base.specs.declared.lengths.Length.TheVariants as of_length
use Rattle.viz_base.specs.declared.styles.Style.{Style}
use Rattle.viz_base.specs.declared.trees.BoxNode.{BoxNode}
use Rattle.viz_base.specs.declared.trees.BoxTree.{BoxTree}
use Rattle.viz_base.specs.declared.worlds.World.{World}
use Rattle.std.specs.Prelude.{slice_get}
use Rattle.viz_base.specs.FontSizes.{fraction}
use Rattle.viz_base.specs.Styles.{nothing}
use Rattle.layout_semantics.specs.Lengths.{used, used_unless_auto, used_if_absolute, maximum, clamped, own}
use Rattle.layout_semantics.specs.DefiniteHeights.{given_height, clamped_height}

-- the intrinsic width and height, in pixels
abbrev pub intrinsic : BoxTree → ℕ → ℕ × ℕ
intrinsic tree at = unwrap_or (option_and_then (λ (b : BoxNode). b.size) (slice_get tree.boxes at)) (0, 0)

-- one size where the other is given, by the ratio of the intrinsic ones; the intrinsic one where the ratio has a 0
-- (our own reading)
abbrev pub by_ratio : ℤ → ℕ → ℕ → ℤ
by_ratio given zero wanted = pos (64 * wanted)
by_ratio given (suc n) wanted = fraction (pos wanted) (suc n) given

-- the width: that given, or what follows from the height, or the intrinsic one; and then clamped
abbrev pub replaced_width : ℕ × ℕ → Option ℤ → Option ℤ → Option ℤ → ℤ → ℤ
replaced_width size width height most least =
    clamped most least (unwrap_or width (option_map_or (λ h. by_ratio h size.1 size.0) height (pos (64 * size.0))))

-- the height: that given, or what follows from the width as it was clamped
abbrev pub replaced_height : ℕ × ℕ → ℤ → Option ℤ → ℤ
replaced_height size width height = unwrap_or height (by_ratio width size.0 size.1)

-- both of a box, in a containing block of width `cb`
abbrev pub replaced_size : BoxTree → World → ℕ → ℤ → Extent ℤ
replaced_size tree w at cb =
    let height = given_height tree w at in
    let given = used_unless_auto tree w (own tree at (λ (s : Style). s.width) of_length.Auto) cb in
    let most = maximum (λ length. used_unless_auto tree w length cb) (own tree at (λ (s : Style). s.max_width) None) in
    let least = used tree w (own tree at (λ (s : Style). s.min_width) nothing) cb in
    let width = replaced_width (intrinsic tree at) given height most least in
    record { width = width; height = clamped_height tree w at (replaced_height (intrinsic tree at) width height) }

-- the width in preferred widths, where percentages count as `auto` and none: our own reading of 10.3.5
abbrev pub preferred_replaced : BoxTree → World → ℕ → ℤ
preferred_replaced tree w at =
    let given = used_if_absolute tree w (own tree at (λ (s : Style). s.width) of_length.Auto) in
    let height = used_if_absolute tree w (own tree at (λ (s : Style). s.height) of_length.Auto) in
    let most = maximum (used_if_absolute tree w) (own tree at (λ (s : Style). s.max_width) None) in
    let least = unwrap_or (used_if_absolute tree w (own tree at (λ (s : Style). s.min_width) nothing)) (pos 0) in
    replaced_width (intrinsic tree at) given height most least
