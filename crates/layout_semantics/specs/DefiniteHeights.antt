-- Heights that are known before layout, and what percentages of heights are of (CSS 2.1, 10.5, 10.7).
use Rattle.std.specs.Prelude.{ℕ, zero, suc, ◌*◌, Bool, true, false, not, ◌||◌, ℤ, pos, Option, Some, None, option_and_then, option_map, unwrap_or}
use Rattle.std.specs.Option.{option_map_or}
use Rattle.viz_base.specs.declared.lengths.Length.{Length}
use Rattle.viz_base.specs.declared.lengths.Length.TheVariants as of_length
use Rattle.viz_base.specs.declared.styles.Style.{Style}
use Rattle.viz_base.specs.declared.trees.BoxTree.{BoxTree}
use Rattle.viz_base.specs.declared.trees.Kind.{Kind}
use Rattle.viz_base.specs.declared.trees.Kind.TheVariants as of_kind
use Rattle.viz_base.specs.declared.worlds.World.{World}
use Rattle.layout_semantics.specs.Blocks.{kind_of, parent_of}
use Rattle.viz_base.specs.FontSizes.{fraction}
use Rattle.viz_base.specs.Styles.{nothing}
use Rattle.layout_semantics.specs.InlineContent.{is_zero}
use Rattle.layout_semantics.specs.Lengths.{used, maximum, clamped, own}

-- ---- the containing block of a percentage height

-- an inline box is no containing block, and an anonymous block is passed over (CSS 2.1, 9.2.1.1)
abbrev pub is_passed_over : Kind → Bool
is_passed_over of_kind.Inline = true
is_passed_over of_kind.Anon = true
is_passed_over _ = false

unfoldable pub container_to : ℕ → BoxTree → ℕ → Option ℕ
container_to zero tree at = None
container_to (suc levels) tree at =
    option_and_then (λ parent. elim (is_passed_over (kind_of tree parent))
    [ true ↦ container_to levels tree parent | false ↦ Some parent ]) (parent_of tree.boxes at)

-- the box whose height percentages are of; nothing of the root, whose containing block is the viewport (CSS 2.1, 10.1).
-- A box's number is greater than its parent's
abbrev pub percentage_container : BoxTree → ℕ → Option ℕ
percentage_container tree at = container_to (suc at) tree at

-- ---- which heights are definite, whatever the world

abbrev pub own_height : BoxTree → ℕ → Length
own_height tree at = own tree at (λ (s : Style). s.height) of_length.Auto

abbrev pub least_height : BoxTree → ℕ → Length
least_height tree at = own tree at (λ (s : Style). s.min_height) nothing

-- a percentage of a height that is not definite counts as auto, and as no minimum (10.5, 10.7)
abbrev pub counts_as_auto : (definite : Bool) → Length → Bool
counts_as_auto definite of_length.Auto = true
counts_as_auto definite (of_length.Pct p) = not definite
counts_as_auto definite length = false

unfoldable pub is_definite_to : ℕ → BoxTree → ℕ → Bool
is_definite_to zero tree at = false
is_definite_to (suc levels) tree at =
    option_map_or (λ container.
    not (counts_as_auto (is_definite_to levels tree container) (own_height tree container)))
    (percentage_container tree at) true

-- the height that percentages of a box's heights are of is definite: that of
-- the viewport, an absolute height, or a percentage of a definite one
abbrev pub is_definite : BoxTree → ℕ → Bool
is_definite tree at = is_definite_to (suc at) tree at

-- the height of a box is auto
unfoldable pub has_auto_height : BoxTree → ℕ → Bool
has_auto_height tree at = counts_as_auto (is_definite tree at) (own_height tree at)

-- it has no minimum height, or a computed one of zero
unfoldable pub has_no_minimum : BoxTree → ℕ → Bool
has_no_minimum tree at = counts_as_auto (is_definite tree at) (least_height tree at) || is_zero (least_height tree at)

-- ---- definite heights

-- a height where the containing block's is `around`: nothing of `auto`, and of a percentage of no definite height
abbrev pub height_around : BoxTree → World → Option ℤ → Length → Option ℤ
height_around tree w around of_length.Auto = None
height_around tree w around (of_length.Pct p) = option_map (fraction p 100000000) around
height_around tree w around length = Some (used tree w length (pos 0))

-- a height after the box's maximum and minimum; a percentage of no definite height is no maximum, and a minimum of 0
abbrev pub clamped_around : BoxTree → World → Option ℤ → ℕ → ℤ → ℤ
clamped_around tree w around at height =
    clamped (maximum (height_around tree w around) (own tree at (λ (s : Style). s.max_height) None))
    (unwrap_or (height_around tree w around (least_height tree at)) (pos 0)) height

abbrev pub own_height_around : BoxTree → World → Option ℤ → ℕ → Option ℤ
own_height_around tree w around at =
    option_map (clamped_around tree w around at) (height_around tree w around (own_height tree at))

unfoldable pub definite_height_to : ℕ → BoxTree → World → ℕ → Option ℤ
definite_height_to zero tree w at = None
definite_height_to (suc levels) tree w at =
    option_map_or (λ container. own_height_around tree w (definite_height_to levels tree w container)
    container) (percentage_container tree at) (Some (pos (64 * w.h)))

-- the height that percentages of a box's heights are of, where it is definite: that of
-- the viewport, an absolute height, or a percentage of a definite one
abbrev pub definite_height : BoxTree → World → ℕ → Option ℤ
definite_height tree w at = definite_height_to (suc at) tree w at

-- the height that a box's own property gives, and a height after its maximum and minimum
abbrev pub given_height : BoxTree → World → ℕ → Option ℤ
given_height tree w at = height_around tree w (definite_height tree w at) (own_height tree at)

abbrev pub clamped_height : BoxTree → World → ℕ → ℤ → ℤ
clamped_height tree w at height = clamped_around tree w (definite_height tree w at) at height
