-- How large the numbers of lines may be, by the sizes of what they are made of.
use Rattle.std.specs.Prelude.{ℕ, ◌+◌, ◌≤◌, ◌^◌, ℤ, unsigned_abs, List, [], ◌∷◌, Contains}
use Rattle.layout_semantics.specs.Floats.{FloatBox}
use Rattle.layout_semantics.specs.InlineContent.{float_boxes}
use Rattle.layout_semantics.specs.LineHeights.{InlineContext}
use Rattle.lay_float.specs.Limits.{IsHalf, AreHalf}
use Rattle.lay_line.specs.Fits.{ReachFits}
use Rattle.lay_line.specs.steps.Held.{Held}
use Rattle.lay_line.specs.steps.Loading.{Load, bare}
use Rattle.lay_line.specs.steps.Measured.{Measured}
use Rattle.lay_line.specs.steps.Meeting.{Slot}
use Rattle.lay_line.specs.steps.Words.{size_in}

-- each of these is at most m in size
abbrev pub AllWithin : ℕ → List ℤ → Type 0
AllWithin m [] = Unit {0}
AllWithin m (z ∷ zs) = (unsigned_abs z ≤ m) × AllWithin m zs

-- ---- widths

-- the widths of pieces together, each by its size
abbrev pub weight : List Measured → ℕ
weight [] = 0
weight (m ∷ ms) = unsigned_abs m.width + weight ms

abbrev pub held_size : Held → ℕ
held_size h = unsigned_abs h.width + unsigned_abs h.spaces

-- what a line holds, with more pieces
abbrev pub ClampFits : Held → List Measured → Type 0
ClampFits h ms = held_size h + weight ms ≤ 2 ^ 100

-- where the next item stands, with more pieces
abbrev pub StandFits : ℤ → List Measured → Type 0
StandFits x ms = unsigned_abs x + weight ms ≤ 2 ^ 100

-- ---- heights

-- how far each box reaches above and below the baseline of its line
abbrev pub BoxesReach : InlineContext → Type 0
BoxesReach c = (at : ℕ) → ReachFits c at

-- ---- floats

-- the edges of each of these are at most m in size
abbrev pub FloatsWithin : ℕ → List FloatBox → Type 0
FloatsWithin m floats = (f : FloatBox) → Contains floats f
    → AllWithin m (f.box.left ∷ f.box.top ∷ f.box.right ∷ f.box.bottom ∷ [])

-- how much farther than what stands already floats can reach
abbrev pub float_reach : InlineContext → ℕ → ℕ
float_reach c at = unsigned_abs (size_in c at).width + unsigned_abs (size_in c at).height

abbrev pub floats_reach : InlineContext → List ℕ → ℕ
floats_reach c [] = 0
floats_reach c (at ∷ boxes) = float_reach c at + floats_reach c boxes

-- floats of lines placed one after another, from y on and with no top above `least`:
-- however they are put side by side or below one another they stay within 2^99
pub record PlacesFit (c : InlineContext) (floats : List FloatBox) (least y : ℤ) (boxes : List ℕ) : Type 0 where
  pub most : ℕ
  pub floats_within : FloatsWithin most floats
  pub numbers : AllWithin most (c.cb.left ∷ c.cb.right ∷ least ∷ y ∷ [])
  pub room : most + floats_reach c boxes ≤ 2 ^ 99

-- the room beside floats in the span of this height from y on
abbrev pub RoomFits : InlineContext → List FloatBox → ℤ → ℤ → Type 0
RoomFits c floats y tall = AreHalf floats (c.cb.left ∷ c.cb.right ∷ y ∷ tall ∷ [])

-- ---- a line takes segments

-- with these pieces still to come: what it holds, the floats that it meets, and how far it reaches
pub record FillFits (c : InlineContext) (slot : Slot) (load : Load) (pieces : List Measured) : Type 0 where
  pub held : ClampFits load.held pieces
  pub places : PlacesFit c load.met.floats slot.least slot.top (float_boxes (bare pieces))
  pub tall : IsHalf slot.tall
  pub reach : BoxesReach c
