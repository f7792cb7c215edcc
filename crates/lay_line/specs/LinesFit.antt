-- How large the numbers may be from which lines begin, so that what is computed of all of them fits.
use Rattle.std.specs.Prelude.{ℕ, ◌+◌, ◌*◌, ◌≤◌, ◌^◌, ℤ, List, [], ◌∷◌, take, length}
use Rattle.std.specs.List.{AllByRecursion}
use Rattle.layout_semantics.specs.Blocks.{node_of}
use Rattle.layout_semantics.specs.Floats.{FloatBox}
use Rattle.layout_semantics.specs.InlineContent.{content, float_boxes}
use Rattle.layout_semantics.specs.LineFilling.{Met}
use Rattle.layout_semantics.specs.LineHeights.{InlineContext}
use Rattle.layout_semantics.specs.Lines.{SoFar, before_all}
use Rattle.lay_float.specs.Limits.{IsHalf}
use Rattle.lay_line.specs.Fits.{InlineFits, WidthFits}
use Rattle.lay_line.specs.Limits.{AllWithin, weight, BoxesReach, FloatsWithin, floats_reach, PlacesFit}
use Rattle.lay_line.specs.LineFits.{BoxesFit, SpotsOnLine}
use Rattle.lay_line.specs.steps.Loading.{Load, bare, tallest_by}
use Rattle.lay_line.specs.steps.Measured.{Measured, measured}
use Rattle.lay_line.specs.steps.Meeting.{Slot}
use Rattle.lay_line.specs.steps.Words.{width_in, reach_in, strut_in}

-- ---- a line begins

-- with its first segment, whose floats are met
abbrev pub FirstFits : InlineContext → Slot → Met → List Measured → Type 0
FirstFits c slot met first =
    InlineFits c.tree c.world (node_of c.tree c.container)
    × (BoxesReach c × (PlacesFit c met.floats slot.least slot.top (float_boxes (bare first)) × IsHalf slot.tall))

-- ---- a line ends

-- where it began: at y, behind so many floats, none standing above `least`
pub record Start : Type 0 where
  pub y : ℤ
  pub least : ℤ
  pub floats : ℕ

-- having begun there, it holds these items: its numbers, the floats met,
-- those that wait, and those that it has if it doesn't exist
pub record EndFits (c : InlineContext) (start : Start) (slot : Slot) (f : Load) (items : List Measured) : Type 0 where
  pub boxes : BoxesFit c
  pub numbers : AllWithin (2 ^ 95)
      (c.cb.left ∷ c.cb.right ∷ start.least ∷ slot.top ∷ slot.tall ∷ f.extent.above ∷ f.extent.below ∷ f.held.width ∷ [])
  pub floats : FloatsWithin (2 ^ 95) f.met.floats
  pub waiting : floats_reach c f.met.waiting ≤ 2 ^ 95
  pub spots : SpotsOnLine f.met.spots
  pub widths : weight items ≤ 2 ^ 95
  pub empty : PlacesFit c (take start.floats f.met.floats) start.least start.y (float_boxes (bare items))

-- ---- line by line

-- with these pieces still to come: each line is at most twice as high as a box reaches, and each float
-- is as far from those before it as it is wide and high, so that all stay within 2^95
pub record RestFits (c : InlineContext) (tall : ℤ) (now : SoFar) (pieces : List Measured) : Type 0 where
  pub boxes : BoxesFit c
  pub strut : InlineFits c.tree c.world (node_of c.tree c.container)
  pub high : ℕ
  pub reaches : (at : ℕ) → AllWithin high ((reach_in c at).above ∷ (reach_in c at).below ∷ [])
  pub strut_reaches : AllWithin high ((strut_in c).above ∷ (strut_in c).below ∷ [])
  pub low : 2 * high ≤ 2 ^ 95
  pub tall_near : AllWithin (2 ^ 95) (tall ∷ [])
  pub most : ℕ
  pub floats : FloatsWithin most now.floats
  pub numbers : AllWithin most (c.cb.left ∷ c.cb.right ∷ now.least ∷ now.y ∷ [])
  pub widths : weight pieces ≤ 2 ^ 95
  pub room : most + floats_reach c (float_boxes (bare pieces)) + length pieces * (2 * high) ≤ 2 ^ 95

-- all lines, from y on and beside these floats
pub record LinesFit (c : InlineContext) (y least : ℤ) (floats : List FloatBox) : Type 0 where
  pub widths : AllByRecursion (WidthFits c) (content c.tree c.container)
  pub rest : RestFits c (tallest_by c (content c.tree c.container)) (before_all y least floats)
      (measured (width_in c) (content c.tree c.container))
