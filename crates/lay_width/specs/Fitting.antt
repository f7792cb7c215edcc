-- The exact values on the way to the widths of a box: a calc may report a
-- coefficient past its limit where one of them passes it.
use Rattle.std.specs.Prelude.{ℕ, zero, suc, ◌*◌, ℤ, pos, ◌+ℤ◌, ◌-ℤ◌, int_le, Bool, true, false, List, [], ◌∷◌, Option, Some, None}
use Rattle.viz_base.specs.Numbers.{floor_of}
use Rattle.viz_base.specs.declared.layouts.Preferred.{Preferred}
use Rattle.viz_base.specs.declared.layouts.Widths.{Widths}
use Rattle.viz_base.specs.declared.lengths.Length.{Length}
use Rattle.viz_base.specs.declared.lengths.Length.TheVariants as of_length
use Rattle.viz_base.specs.declared.styles.Style.{Style}
use Rattle.viz_base.specs.declared.trees.BoxTree.{BoxTree}
use Rattle.viz_base.specs.declared.worlds.World.{World}
use Rattle.viz_base.specs.Styles.{nothing}
use Rattle.viz_calc.specs.State.{AllSmall}
use Rattle.layout_semantics.specs.Lengths.{used, own, margins, borders, paddings}
use Rattle.layout_semantics.specs.Horizontal.{sum_of, is_auto, left_margin, terms_around, Placing, block_flow, shrunk, replaced_block, replaced_shrunk}
use Rattle.layout_semantics.specs.Replaced.{by_ratio, intrinsic, replaced_size}
use Rattle.layout_semantics.specs.DefiniteHeights.{percentage_container, least_height, definite_height_to, definite_height, given_height}
use Rattle.layout_laws.specs.Terms.{own_maximum, own_minimum}
use Rattle.lay_length.specs.Ways.{used_way}
use Rattle.lay_width.specs.steps.Terms.{around, room_between, again, clamped_again}

-- the values on the way to a used length are small
abbrev pub UsedFits : BoxTree → World → Length → ℤ → Type 0
UsedFits tree w length cb = AllSmall (used_way tree w length cb)

abbrev pub MostFits : BoxTree → World → Option Length → ℤ → Type 0
MostFits tree w None cb = Unit {0}
MostFits tree w (Some length) cb = UsedFits tree w length cb

-- to the edges of a box
abbrev pub EdgesFit : BoxTree → World → ℕ → ℤ → Type 0
EdgesFit tree w at cb =
    UsedFits tree w (margins tree at).left cb
    × (UsedFits tree w (borders tree at).left cb × (UsedFits tree w (paddings tree at).left cb
    × (AllSmall (pos 0 ∷ [])
    × (UsedFits tree w (paddings tree at).right cb
    × (UsedFits tree w (borders tree at).right cb × UsedFits tree w (margins tree at).right cb)))))

-- to the terms of a box up and down
abbrev pub VerticalsFit : BoxTree → World → ℕ → ℤ → Type 0
VerticalsFit tree w b room =
    UsedFits tree w (margins tree b).top room
    × (UsedFits tree w (borders tree b).top room × (UsedFits tree w (paddings tree b).top room
    × (UsedFits tree w (paddings tree b).bottom room
    × (UsedFits tree w (borders tree b).bottom room × UsedFits tree w (margins tree b).bottom room))))

-- the sums on the way to the sum of seven terms
abbrev pub sum_way : Widths ℤ → List ℤ
sum_way t =
    (t.border_right +ℤ t.margin_right)
    ∷ (t.padding_right +ℤ (t.border_right +ℤ t.margin_right))
    ∷ (t.content +ℤ (t.padding_right +ℤ (t.border_right +ℤ t.margin_right)))
    ∷ (t.padding_left +ℤ (t.content +ℤ (t.padding_right +ℤ (t.border_right +ℤ t.margin_right))))
    ∷ (t.border_left +ℤ (t.padding_left +ℤ (t.content +ℤ (t.padding_right +ℤ (t.border_right +ℤ t.margin_right)))))
    ∷ sum_of t
    ∷ []

-- to the room between edges
abbrev pub room_way : Widths ℤ → ℤ → List ℤ
room_way t cb = pos 0 ∷ (cb -ℤ sum_of t) ∷ []

-- to a right margin
abbrev pub right_way : Widths ℤ → ℤ → ℤ → ℤ → List ℤ
right_way t cb sum left =
    (sum -ℤ t.margin_left) ∷ (sum -ℤ t.margin_left -ℤ t.margin_right) ∷ (cb -ℤ (sum -ℤ t.margin_left -ℤ t.margin_right))
    ∷ (cb -ℤ (sum -ℤ t.margin_left -ℤ t.margin_right) -ℤ left) ∷ []

-- to a left margin, automatic or not
abbrev pub left_way : ℤ → ℤ → ℤ → List ℤ
left_way sum cb given = given ∷ (cb -ℤ sum) ∷ floor_of (cb -ℤ sum) 2 ∷ []

-- to the terms of a fixed width
abbrev pub FixedFits : Bool → Bool → Widths ℤ → ℤ → Type 0
FixedFits left_auto right_auto t cb =
    AllSmall (sum_way t) × (AllSmall (left_way (sum_of t) cb t.margin_left)
    × AllSmall (right_way t cb (sum_of t)
    (left_margin left_auto right_auto (int_le (sum_of t) cb) (cb -ℤ sum_of t) t.margin_left)))

-- ---- minima and maxima

abbrev pub ClampFits : BoxTree → World → ℕ → ℤ → Type 0
ClampFits tree w at cb = MostFits tree w (own tree at (λ (s : Style). s.max_width) None) cb
    × UsedFits tree w (own tree at (λ (s : Style). s.min_width) nothing) cb

-- ---- definite heights

-- to a height where the containing block's is `around`
abbrev pub HeightFits : BoxTree → World → Option ℤ → Length → Type 0
HeightFits tree w (Some around) (of_length.Pct p) = UsedFits tree w (of_length.Pct p) around
HeightFits tree w around (of_length.Px c) = UsedFits tree w (of_length.Px c) (pos 0)
HeightFits tree w around (of_length.Em k node) = UsedFits tree w (of_length.Em k node) (pos 0)
HeightFits tree w around length = Unit {0}

abbrev pub MostHeightFits : BoxTree → World → Option ℤ → Option Length → Type 0
MostHeightFits tree w around None = Unit {0}
MostHeightFits tree w around (Some length) = HeightFits tree w around length

-- to what a maximum and a minimum make of a box's height, that of the content too
abbrev pub ClampedFits : BoxTree → World → ℕ → Option ℤ → Type 0
ClampedFits tree w b around =
    MostHeightFits tree w around (own tree b (λ (s : Style). s.max_height) None)
    × (HeightFits tree w around (least_height tree b) × AllSmall (pos 0 ∷ []))

-- to the height that a box's own property gives, clamped by its maximum and minimum
abbrev pub OwnHeightFits : BoxTree → World → Option ℤ → ℕ → Type 0
OwnHeightFits tree w around at = HeightFits tree w around (own tree at (λ (s : Style). s.height) of_length.Auto)
    × ClampedFits tree w at around

-- to the height that percentages of a box's heights are of, up so many levels
unfoldable pub DefiniteFits_to : ℕ → BoxTree → World → ℕ → Type 0
DefiniteFits_to zero tree w at = Unit {0}
DefiniteFits_to (suc levels) tree w at = elim (percentage_container tree at) as (λ (o : Option ℕ). Type 0) [
  | None ↦ AllSmall (pos (64 * w.h) ∷ [])
  | Some container ↦ DefiniteFits_to levels tree w container
      × OwnHeightFits tree w (definite_height_to levels tree w container) container
]

-- to the height that a box's own property gives, not clamped
abbrev pub GivenFits : BoxTree → World → ℕ → Type 0
GivenFits tree w at = DefiniteFits_to (suc at) tree w at
    × HeightFits tree w (definite_height tree w at) (own tree at (λ (s : Style). s.height) of_length.Auto)

-- ---- replaced boxes

-- to a width that follows from a height, or to the intrinsic one
abbrev pub RatioFits : ℕ × ℕ → Option ℤ → Type 0
RatioFits size None = AllSmall (pos (64 * size.0) ∷ [])
RatioFits size (Some height) = AllSmall (by_ratio height size.1 size.0 ∷ [])

-- to a replaced box's width before it is clamped: what follows from the height only where its own is `auto`
abbrev pub TentativeFits : BoxTree → World → ℕ → Length → ℤ → Type 0
TentativeFits tree w at of_length.Auto cb = GivenFits tree w at
    × RatioFits (intrinsic tree at) (given_height tree w at)
TentativeFits tree w at length cb = UsedFits tree w length cb

abbrev pub ReplacedFits : BoxTree → World → ℕ → ℤ → Type 0
ReplacedFits tree w at cb =
    TentativeFits tree w at (own tree at (λ (s : Style). s.width) of_length.Auto) cb × ClampFits tree w at cb

-- ---- boxes

-- to the terms of a block of a fixed width, with these edges
abbrev pub FixedBlockFits : BoxTree → ℕ → Widths ℤ → ℤ → ℤ → Type 0
FixedBlockFits tree at edges cb width =
    FixedFits (is_auto (margins tree at).left) (is_auto (margins tree at).right) (around edges width) cb

-- to the terms of a block whose width is what is left, with these edges: they may be computed again with another width
abbrev pub FillingFits : BoxTree → World → ℕ → ℤ → Widths ℤ → Type 0
FillingFits tree w at cb edges =
    AllSmall (sum_way edges) × (AllSmall (room_way edges cb) × (ClampFits tree w at cb
    × by_again (again (own_maximum tree w at cb) (own_minimum tree w at cb) (room_between edges cb))))
  where
    by_again : Option ℤ → Type 0
    by_again None = FixedFits false false (around edges (room_between edges cb)) cb
    by_again (Some width) = FixedBlockFits tree at edges cb width

-- to the terms of a block of this `width`, with these edges
abbrev pub GivenBlockFits : BoxTree → World → ℕ → ℤ → Length → Widths ℤ → Type 0
GivenBlockFits tree w at cb length edges =
    UsedFits tree w length cb
    × (ClampFits tree w at cb × FixedBlockFits tree at edges cb (clamped_again tree w at cb (used tree w length cb)))

abbrev pub own_width_of : BoxTree → ℕ → Length
own_width_of tree at = own tree at (λ (s : Style). s.width) of_length.Auto

-- to the terms of a block with these edges, its `width` being `auto` or not
abbrev pub BlockFitsBy : Bool → BoxTree → World → ℕ → ℤ → Widths ℤ → Type 0
BlockFitsBy true tree w at cb edges = FillingFits tree w at cb edges
BlockFitsBy false tree w at cb edges = GivenBlockFits tree w at cb (own_width_of tree at) edges

abbrev pub BlockFits : BoxTree → World → ℕ → ℤ → Type 0
BlockFits tree w at cb = EdgesFit tree w at cb
    × BlockFitsBy (is_auto (own_width_of tree at)) tree w at cb (terms_around tree w at cb (pos 0))

-- to a width that shrinks to fit
abbrev pub fit_way : Preferred ℤ → List ℤ
fit_way p = p.most ∷ p.least ∷ []

abbrev pub FittedFits : BoxTree → World → Length → ℤ → Preferred ℤ → Widths ℤ → Type 0
FittedFits tree w of_length.Auto cb p edges = AllSmall (sum_way edges)
    × (AllSmall (room_way edges cb) × AllSmall (fit_way p))
FittedFits tree w length cb p edges = UsedFits tree w length cb

abbrev pub ShrunkFits : BoxTree → World → ℕ → ℤ → Preferred ℤ → Type 0
ShrunkFits tree w at cb p =
    EdgesFit tree w at cb
    × (FittedFits tree w (own_width_of tree at) cb p (terms_around tree w at cb (pos 0)) × ClampFits tree w at cb)

-- to the terms of a replaced block with these edges
abbrev pub ReplacedBetweenFits : BoxTree → World → ℕ → ℤ → Widths ℤ → Type 0
ReplacedBetweenFits tree w at cb edges =
    ReplacedFits tree w at cb × FixedBlockFits tree at edges cb (replaced_size tree w at cb).width

abbrev pub ReplacedBlockFits : BoxTree → World → ℕ → ℤ → Type 0
ReplacedBlockFits tree w at cb = EdgesFit tree w at cb
    × ReplacedBetweenFits tree w at cb (terms_around tree w at cb (pos 0))

-- a box in a containing block of this width
pub record InBlock : Type 0 where
  pub tree : BoxTree
  pub world : World
  pub at : ℕ
  pub cb : ℤ

abbrev pub in_block : BoxTree → World → ℕ → ℤ → InBlock
in_block tree w at cb = record { tree = tree; world = w; at = at; cb = cb }

-- to the terms of a box of this placing, with these preferred widths
abbrev pub WidthsFit : InBlock → Placing → Preferred ℤ → Type 0
WidthsFit b block_flow p = BlockFits b.tree b.world b.at b.cb
WidthsFit b shrunk p = ShrunkFits b.tree b.world b.at b.cb p
WidthsFit b replaced_block p = ReplacedBlockFits b.tree b.world b.at b.cb
WidthsFit b replaced_shrunk p = EdgesFit b.tree b.world b.at b.cb
    × ReplacedFits b.tree b.world b.at b.cb
