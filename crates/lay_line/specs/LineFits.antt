-- How large the numbers of a line may be, so that what is made of them fits.
use Rattle.std.specs.Prelude.{ℕ, ◌≤◌, ◌^◌, ℤ, pos, Bool, List, [], ◌∷◌}
use Rattle.std.specs.List.{AllByRecursion}
use Rattle.std.specs.Option.{option_map_or}
use Rattle.viz_base.specs.declared.layouts.Spot.{Spot}
use Rattle.viz_base.specs.declared.lengths.Length.{Length}
use Rattle.viz_base.specs.declared.lengths.Sides.{Sides}
use Rattle.viz_base.specs.declared.renderings.Quad.{Quad}
use Rattle.layout_semantics.specs.Blocks.{node_of, parent_of}
use Rattle.layout_semantics.specs.Fonts.{ascent, descent}
use Rattle.layout_semantics.specs.Fragments.{ItemPlace, SetLine}
use Rattle.layout_semantics.specs.Lengths.{margins, borders, paddings}
use Rattle.layout_semantics.specs.LineHeights.{InlineContext}
use Rattle.lay_line.specs.Fits.{FontFits, EdgesFit, TextShiftFits, InlineShiftFits, ReachFits}
use Rattle.lay_line.specs.Limits.{AllWithin, weight}
use Rattle.lay_line.specs.steps.Entries.{edges_in}
use Rattle.lay_line.specs.steps.Measured.{Measured}
use Rattle.lay_line.specs.steps.Words.{own_reach, raised, inline_raised}

-- ---- a box

-- how far a text box is raised: as the box that it is in
abbrev pub text_raised : InlineContext → ℕ → ℤ
text_raised c at = option_map_or (inline_raised c) (parent_of c.tree.boxes at) (pos 0)

abbrev pub QuadWithin : ℕ → Quad ℤ → Type 0
QuadWithin m q = AllWithin m (q.left ∷ q.top ∷ q.right ∷ q.bottom ∷ [])

-- the used edges at the sides of a fragment, where it starts or ends or neither, are at most 2^90 in size
abbrev pub EdgesWithin : InlineContext → Sides Length → Type 0
EdgesWithin c sides = (starts ends : Bool) → QuadWithin (2 ^ 90) (edges_in c starts ends sides)

-- what is computed of a box wherever it stands fits, and is at most 2^90 in size
pub record BoxFits (c : InlineContext) (at : ℕ) : Type 0 where
  pub text_raise : TextShiftFits c at
  pub inline_raise : InlineShiftFits c at
  pub font : FontFits c.tree c.world (node_of c.tree at)
  pub reach : ReachFits c at
  pub padding : EdgesFit c (paddings c.tree at)
  pub border : EdgesFit c (borders c.tree at)
  pub margin : EdgesFit c (margins c.tree at)
  pub heights : AllWithin (2 ^ 90)
      (text_raised c at ∷ inline_raised c at ∷ raised c at (own_reach c at) ∷ (own_reach c at).above
      ∷ ascent c.tree c.world (node_of c.tree at) ∷ descent c.tree c.world (node_of c.tree at) ∷ [])
  pub edges : EdgesWithin c (paddings c.tree at)
      × (EdgesWithin c (borders c.tree at) × EdgesWithin c (margins c.tree at))

abbrev pub BoxesFit : InlineContext → Type 0
BoxesFit c = (at : ℕ) → BoxFits c at

-- ---- a line

-- a number of a line
abbrev pub OnLine : List ℤ → Type 0
OnLine zs = AllWithin (2 ^ 98) zs

abbrev pub PlaceOnLine : ItemPlace → Type 0
PlaceOnLine p = OnLine (p.left ∷ p.right ∷ [])

abbrev pub PlacesOnLine : List ItemPlace → Type 0
PlacesOnLine places = AllByRecursion PlaceOnLine places

abbrev pub SpotOnLine : ℕ × Spot ℤ → Type 0
SpotOnLine s = AllWithin (2 ^ 99) (s.1.x ∷ s.1.y ∷ [])

abbrev pub SpotsOnLine : List (ℕ × Spot ℤ) → Type 0
SpotsOnLine spots = AllByRecursion SpotOnLine spots

pub record SetFits (line : SetLine) : Type 0 where
  pub numbers : OnLine (line.baseline ∷ line.left ∷ line.right ∷ [])
  pub places : PlacesOnLine line.places
  pub spots : SpotsOnLine line.spots

-- what the content of a line is made of: its numbers, those that its items come to, and where its floats stand
pub record ContentFits (baseline left width : ℤ) (spots : List (ℕ × Spot ℤ)) (pieces : List Measured) : Type 0 where
  pub numbers : AllWithin (2 ^ 97) (baseline ∷ left ∷ width ∷ [])
  pub widths : weight pieces ≤ 2 ^ 97
  pub on_line : SpotsOnLine spots
