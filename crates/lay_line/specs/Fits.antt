-- The exact values on the way to the numbers of one box or one item of a line: a
-- calc may report a coefficient past its limit where one of them passes it.
use Rattle.std.specs.Prelude.{ℕ, zero, suc, ◌==◌, ℤ, pos, ◌+ℤ◌, ◌-ℤ◌, neg_ℤ, Bool, true, false, List, [], ◌∷◌, Option, Some, None}
use Rattle.viz_base.specs.FontSizes.{fraction}
use Rattle.viz_base.specs.Numbers.{floor_of}
use Rattle.viz_base.specs.declared.layouts.Inner.{Inner}
use Rattle.viz_base.specs.declared.lengths.Length.{Length}
use Rattle.viz_base.specs.declared.lengths.Sides.{Sides}
use Rattle.viz_base.specs.declared.renderings.Placed.{Placed}
use Rattle.viz_base.specs.declared.renderings.Quad.{Quad}
use Rattle.viz_base.specs.declared.lengths.Valign.{Valign}
use Rattle.viz_base.specs.declared.lengths.Valign.TheVariants as of_valign
use Rattle.viz_base.specs.declared.styles.Style.{Style}
use Rattle.viz_base.specs.declared.trees.BoxTree.{BoxTree}
use Rattle.viz_base.specs.declared.worlds.World.{World}
use Rattle.viz_calc.specs.State.{AllSmall}
use Rattle.layout_semantics.specs.Blocks.{node_of, parent_of}
use Rattle.layout_semantics.specs.Fonts.{font_size, line_height, ascent, descent, text_width}
use Rattle.layout_semantics.specs.InlineContent.{Item, start, finish, word, space, atomic, forced, float}
use Rattle.layout_semantics.specs.Lengths.{used, own, margins, borders, paddings}
use Rattle.layout_semantics.specs.LineFilling.{band_width}
use Rattle.layout_semantics.specs.LineHeights.{InlineContext, LineExtent, inner_of, half_leading, inline_extent, height_of_extent, shift_to}
use Rattle.lay_length.specs.Ways.{part_way, line_way}
use Rattle.lay_width.specs.Fitting.{UsedFits}
use Rattle.lay_line.specs.steps.Words.{width_in, own_reach, raise_in, raised}

-- ---- widths

-- to the sum of a margin, a border and a padding
abbrev pub side_way : ℤ → ℤ → ℤ → List ℤ
side_way margin border padding = (padding +ℤ pos 0) ∷ (border +ℤ (padding +ℤ pos 0))
    ∷ (margin +ℤ (border +ℤ (padding +ℤ pos 0))) ∷ []

-- to what a side of an inline box takes, of a containing block of this width
abbrev pub SideFits : BoxTree → World → ℤ → (margin border padding : Length) → Type 0
SideFits tree w room margin border padding =
    AllSmall (room ∷ pos 0 ∷ [])
    × (UsedFits tree w padding room × (UsedFits tree w border room × (UsedFits tree w margin room
    × AllSmall (side_way (used tree w margin room) (used tree w border room) (used tree w padding room)))))

-- to what an item takes of a line
unfoldable pub WidthFits : InlineContext → Item → Type 0
WidthFits c (word at text) =
    AllSmall (part_way c.tree c.world (node_of c.tree at) (text_width c.tree c.world (node_of c.tree at) text))
WidthFits c (space at) =
    AllSmall (part_way c.tree c.world (node_of c.tree at) (text_width c.tree c.world (node_of c.tree at) (32 ∷ [])))
WidthFits c (atomic at) = AllSmall (width_in c (atomic at) ∷ [])
WidthFits c (start at) =
    SideFits c.tree c.world (band_width c.cb) (margins c.tree at).left (borders c.tree at).left
    (paddings c.tree at).left
WidthFits c (finish at) =
    SideFits c.tree c.world (band_width c.cb) (margins c.tree at).right (borders c.tree at).right
    (paddings c.tree at).right
WidthFits c (forced at) = AllSmall (pos 0 ∷ [])
WidthFits c (float at) = AllSmall (pos 0 ∷ [])

-- ---- heights

-- to the leading of a node
abbrev pub LeadingFits : BoxTree → World → ℕ → Type 0
LeadingFits tree w node =
    AllSmall (line_way tree w node)
    × (AllSmall (part_way tree w node (ascent tree w node)) × (AllSmall (part_way tree w node (descent tree w node))
    × AllSmall ((ascent tree w node +ℤ descent tree w node)
    ∷ (line_height tree w node -ℤ (ascent tree w node +ℤ descent tree w node)) ∷ [])))

-- to how far an inline box of a node reaches above and below its own baseline
unfoldable pub InlineFits : BoxTree → World → ℕ → Type 0
InlineFits tree w node =
    LeadingFits tree w node
    × AllSmall (half_leading tree w node ∷ (inline_extent tree w node).above ∷ (inline_extent tree w node).below ∷ [])

-- to the raise of a box whose middle is a quarter of a font size above the baseline
abbrev pub CentredFits : BoxTree → World → ℕ → LineExtent → Type 0
CentredFits tree w node e =
    AllSmall (part_way tree w node (fraction (pos 1) 4 (font_size tree w node)))
    × AllSmall (height_of_extent e ∷ floor_of (height_of_extent e) 2
    ∷ (floor_of (font_size tree w node) 4 +ℤ floor_of (height_of_extent e) 2)
    ∷ ((floor_of (font_size tree w node) 4 +ℤ floor_of (height_of_extent e) 2) -ℤ e.above) ∷ [])

-- to a raise
unfoldable pub RaiseFits : InlineContext → (node parent : ℕ) → LineExtent → Valign → Type 0
RaiseFits c node parent e of_valign.Baseline = AllSmall (pos 0 ∷ [])
RaiseFits c node parent e of_valign.Sub =
    AllSmall (part_way c.tree c.world parent (fraction (pos 1) 5 (font_size c.tree c.world parent)))
    × AllSmall (pos 0 ∷ neg_ℤ (floor_of (font_size c.tree c.world parent) 5) ∷ [])
RaiseFits c node parent e of_valign.Super =
    AllSmall (part_way c.tree c.world parent (fraction (pos 1) 3 (font_size c.tree c.world parent)))
RaiseFits c node parent e of_valign.Middle = CentredFits c.tree c.world parent e
RaiseFits c node parent e (of_valign.Raise length) = AllSmall (line_way c.tree c.world node)
    × UsedFits c.tree c.world length (line_height c.tree c.world node)

-- to how far a box is raised over its line's baseline: its own raise and
-- those of the inline boxes around it, up so many levels
unfoldable pub ShiftFits_to : ℕ → InlineContext → ℕ → LineExtent → Type 0
ShiftFits_to zero c at e = AllSmall (pos 0 ∷ [])
ShiftFits_to (suc levels) c at e = elim (at == c.container) as (λ (b : Bool). Type 0) [
  | true ↦ AllSmall (pos 0 ∷ [])
  | false ↦ elim (parent_of c.tree.boxes at) as (λ (o : Option ℕ). Type 0) [
    | None ↦ AllSmall (pos 0 ∷ [])
    | Some parent ↦ RaiseFits c (node_of c.tree at) (node_of c.tree parent) e
        (own c.tree at (λ (s : Style). s.valign) of_valign.Baseline)
        × (InlineFits c.tree c.world (node_of c.tree parent)
        × (ShiftFits_to levels c parent (inline_extent c.tree c.world (node_of c.tree parent))
        × AllSmall ((raise_in c (node_of c.tree at) (node_of c.tree parent) e
        (own c.tree at (λ (s : Style). s.valign) of_valign.Baseline)
        +ℤ shift_to levels c parent (inline_extent c.tree c.world (node_of c.tree parent))) ∷ [])))
  ]
]

unfoldable pub ShiftFits : InlineContext → ℕ → LineExtent → Type 0
ShiftFits c at e = ShiftFits_to (suc at) c at e

-- to an inline box's raise
unfoldable pub InlineShiftFits : InlineContext → ℕ → Type 0
InlineShiftFits c at = InlineFits c.tree c.world (node_of c.tree at)
    × ShiftFits c at (inline_extent c.tree c.world (node_of c.tree at))

-- to how far a box reaches above and below its own baseline
unfoldable pub OwnFits : InlineContext → ℕ → Type 0
OwnFits c at = elim (inner_of c at) as (λ (o : Option (Inner ℤ)). Type 0) [
  | None ↦ InlineFits c.tree c.world (node_of c.tree at)
  | Some i ↦ AllSmall (i.above ∷ i.below ∷ [])
]

-- and its line's
unfoldable pub ReachFits : InlineContext → ℕ → Type 0
ReachFits c at =
    OwnFits c at × (ShiftFits c at (own_reach c at)
    × AllSmall (((own_reach c at).above +ℤ raised c at (own_reach c at))
    ∷ ((own_reach c at).below -ℤ raised c at (own_reach c at)) ∷ []))

-- ---- fragments

abbrev pub QuadFits : Quad ℤ → Type 0
QuadFits q = AllSmall (q.left ∷ q.top ∷ q.right ∷ q.bottom ∷ [])

-- to the height of a font's text
abbrev pub FontFits : BoxTree → World → ℕ → Type 0
FontFits tree w node = AllSmall (part_way tree w node (ascent tree w node))
    × AllSmall (part_way tree w node (descent tree w node))

-- to the used edges of a fragment
abbrev pub EdgesFit : InlineContext → Sides Length → Type 0
EdgesFit c sides =
    AllSmall (band_width c.cb ∷ pos 0 ∷ [])
    × (UsedFits c.tree c.world sides.left (band_width c.cb) × (UsedFits c.tree c.world sides.top (band_width c.cb)
    × (UsedFits c.tree c.world sides.right (band_width c.cb) × UsedFits c.tree c.world sides.bottom (band_width c.cb))))

-- to the rectangles around a fragment's content
abbrev pub AroundFits : InlineContext → ℕ → Placed ℤ → Type 0
AroundFits c at p =
    (EdgesFit c (paddings c.tree at) × QuadFits p.padding)
    × ((EdgesFit c (borders c.tree at) × QuadFits p.border) × (EdgesFit c (margins c.tree at) × QuadFits p.margin))

-- to the raise of a text
unfoldable pub TextShiftFits : InlineContext → ℕ → Type 0
TextShiftFits c at =
    elim (parent_of c.tree.boxes at) as (λ (o : Option ℕ). Type 0)
    [ None ↦ AllSmall (pos 0 ∷ []) | Some parent ↦ InlineShiftFits c parent ]
