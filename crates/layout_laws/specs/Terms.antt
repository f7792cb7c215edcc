use Rattle.std.specs.Prelude.{◌≡◌, ℕ, ℤ, ◌⊎◌, Option, None}
use Rattle.viz_base.specs.declared.lengths.Length.TheVariants as of_length
use Rattle.viz_base.specs.declared.styles.Style.{Style}
use Rattle.viz_base.specs.declared.trees.BoxTree.{BoxTree}
use Rattle.viz_base.specs.declared.worlds.World.{World}
use Rattle.viz_base.specs.Styles.{nothing}
use Rattle.layout_semantics.specs.Lengths.{used, used_unless_auto, maximum, clamped, own}
use Rattle.layout_semantics.specs.Horizontal.{placing_of, block_flow, replaced_block}

-- a block-level box in normal flow, replaced or not
abbrev pub IsInFlowBlock : BoxTree → ℕ → Type 0
IsInFlowBlock tree at = (placing_of tree at ≡ block_flow) ⊎ (placing_of tree at ≡ replaced_block)

-- what a box's own `width` says, nothing where it is `auto`
abbrev pub own_width : BoxTree → World → ℕ → ℤ → Option ℤ
own_width tree w at cb = used_unless_auto tree w (own tree at (λ (s : Style). s.width) of_length.Auto) cb

abbrev pub own_maximum : BoxTree → World → ℕ → ℤ → Option ℤ
own_maximum tree w at cb =
    maximum (λ length. used_unless_auto tree w length cb) (own tree at (λ (s : Style). s.max_width) None)

abbrev pub own_minimum : BoxTree → World → ℕ → ℤ → ℤ
own_minimum tree w at cb = used tree w (own tree at (λ (s : Style). s.min_width) nothing) cb

-- a width clamped by its maximum and its minimum
abbrev pub clamped_width : BoxTree → World → ℕ → ℤ → ℤ → ℤ
clamped_width tree w at cb width = clamped (own_maximum tree w at cb) (own_minimum tree w at cb) width
