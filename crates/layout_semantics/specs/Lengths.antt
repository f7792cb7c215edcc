-- Used lengths (CSS 2.1, 4.3.2), and the lengths of a box.
use Rattle.std.specs.Prelude.{ℕ, ℤ, pos, ◌+ℤ◌, List, [], ◌∷◌, Option, Some, None}
use Rattle.std.specs.Int.{int_max, int_min}
use Rattle.std.specs.Option.{option_map_or}
use Rattle.viz_base.specs.declared.lengths.Length.{Length}
use Rattle.viz_base.specs.declared.lengths.Length.TheVariants as of_length
use Rattle.viz_base.specs.declared.lengths.Sides.{Sides}
use Rattle.viz_base.specs.declared.styles.Style.{Style}
use Rattle.viz_base.specs.declared.trees.BoxTree.{BoxTree}
use Rattle.viz_base.specs.declared.trees.Kind.{Kind}
use Rattle.viz_base.specs.declared.trees.Kind.TheVariants as of_kind
use Rattle.viz_base.specs.declared.worlds.World.{World}
use Rattle.layout_semantics.specs.Blocks.{kind_of, style_of}
use Rattle.viz_base.specs.FontSizes.{fraction, em_in}
use Rattle.viz_base.specs.Styles.{nothing}

-- ---- used lengths

-- a length in a containing block of width `cb`; `auto` counts 0
abbrev pub used : BoxTree → World → Length → ℤ → ℤ
used tree w of_length.Auto cb = pos 0
used tree w (of_length.Px c) cb = c
used tree w (of_length.Em k node) cb = em_in tree.styles tree.parents w.s k node
used tree w (of_length.Pct p) cb = fraction p 100000000 cb

-- nothing of `auto`
abbrev pub used_unless_auto : BoxTree → World → Length → ℤ → Option ℤ
used_unless_auto tree w of_length.Auto cb = None
used_unless_auto tree w length cb = Some (used tree w length cb)

-- nothing of `auto` and of a percentage
abbrev pub used_if_absolute : BoxTree → World → Length → Option ℤ
used_if_absolute tree w of_length.Auto = None
used_if_absolute tree w (of_length.Pct p) = None
used_if_absolute tree w length = Some (used tree w length (pos 0))

-- the length of a maximum, where there is one
abbrev pub maximum : (Length → Option ℤ) → Option Length → Option ℤ
maximum measure most = option_map_or measure most None

-- a length that is above the maximum becomes it, and then one that is below
-- the minimum becomes that (CSS 2.1, 10.4, 10.7)
abbrev pub clamped : Option ℤ → ℤ → ℤ → ℤ
clamped most least length = int_max (option_map_or (int_min length) most length) least

abbrev pub total : List ℤ → ℤ
total [] = pos 0
total (x ∷ xs) = x +ℤ total xs

-- ---- the lengths of a box

-- an anonymous box has the initial values of what isn't inherited (CSS 2.1, 9.2.1.1)
abbrev pub own_style : BoxTree → ℕ → Option Style
own_style tree at = by_kind (kind_of tree at)
  where
    by_kind : Kind → Option Style
    by_kind of_kind.Anon = None
    by_kind _ = style_of tree at

-- a property of a box, and its initial value where it has no style of its own
abbrev pub own : {A : Type 0} → BoxTree → ℕ → (Style → A) → A → A
own tree at property initial = option_map_or property (own_style tree at) initial

abbrev pub no_sides : Sides Length
no_sides = record { top = nothing; right = nothing; bottom = nothing; left = nothing }

abbrev pub margins : BoxTree → ℕ → Sides Length
margins tree at = own tree at (λ (s : Style). s.margin) no_sides

abbrev pub borders : BoxTree → ℕ → Sides Length
borders tree at = own tree at (λ (s : Style). s.border) no_sides

abbrev pub paddings : BoxTree → ℕ → Sides Length
paddings tree at = own tree at (λ (s : Style). s.padding) no_sides
