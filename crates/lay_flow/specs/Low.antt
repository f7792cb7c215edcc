-- How large the numbers of the flow may be: at most 2^90 in size, so that what one step makes of them fits.
use Rattle.std.specs.Prelude.{ℕ, ◌^◌, ℤ, Option, Some, None}
use Rattle.std.specs.List.{AllByRecursion}
use Rattle.std.specs.Option.{option_to_list}
use Rattle.viz_base.specs.declared.layouts.Band.{Band}
use Rattle.viz_base.specs.declared.layouts.Waiting.{Waiting}
use Rattle.layout_semantics.specs.Flow.{Independent, Cleared}
use Rattle.layout_semantics.specs.Rectangles.{Frame}
use Rattle.layout_semantics.specs.Clearance.{Base, hangs, stands}
use Rattle.lay_margin.specs.declared.runs.Run.{Run}
use Rattle.lay_steps.specs.Flow.{Standing, at_top, below, Context}
use Rattle.page_limits.specs.Bounds.{Bounds, all_around, IsLevelIn, IsAsideIn, IsBandIn, IsExtentIn, IsFloatIn, IsPlacedIn}
use Rattle.page_limits.specs.Boxes.{AreWidthsSmall, AreSidesSmall}

-- so far to each side
abbrev pub reach : Bounds
reach = all_around (2 ^ 90)

abbrev pub IsLevelLow : ℤ → Type 0
IsLevelLow y = IsLevelIn reach y

abbrev pub AreLevelsLow : Option ℤ → Type 0
AreLevelsLow y = AllByRecursion (IsLevelIn reach) (option_to_list y)

abbrev pub IsAsideLow : ℤ → Type 0
IsAsideLow x = IsAsideIn reach x

abbrev pub IsBandLow : Band ℤ → Type 0
IsBandLow cb = IsBandIn reach cb

pub record IsRunLow (run : Run ℤ) : Type 0 where
  pub most : IsAsideLow run.pos
  pub least : IsAsideLow run.neg

abbrev pub IsClearedLow : Cleared → Type 0
IsClearedLow None = Unit {0}
IsClearedLow (Some c) = IsLevelLow c.1

abbrev pub IsStandingLow : Standing → Type 0
IsStandingLow (at_top y c) = IsLevelLow y × IsClearedLow c
IsStandingLow (below edge run stuck) = IsLevelLow edge × IsRunLow run

pub record IsContextLow (c : Context) : Type 0 where
  pub standing : IsStandingLow c.standing
  pub floats : AllByRecursion (IsFloatIn reach) c.floats
  pub least : AreLevelsLow c.least
  pub baseline : AreLevelsLow c.baseline

-- a box before its height is known
pub record IsFrameLow (f : Frame) : Type 0 where
  pub x : AreWidthsSmall (2 ^ 90) f.x
  pub v : AreSidesSmall (2 ^ 90) f.v
  pub aside : IsAsideLow f.corner.x
  pub top : IsLevelLow f.corner.y

-- a box in coordinates of its own
pub record IsIndependentLow (a : Independent) : Type 0 where
  pub size : IsExtentIn reach a.size
  pub baseline : AreLevelsLow a.baseline
  pub boxes : AllByRecursion (IsPlacedIn reach) a.boxes

abbrev pub AreApartLow : (ℕ → Independent) → Type 0
AreApartLow apart = (k : ℕ) → IsIndependentLow (apart k)

-- ---- the way forward

abbrev pub IsBaseLow : Base → Type 0
IsBaseLow (hangs edge) = IsLevelLow edge
IsBaseLow (stands edge) = IsLevelLow edge

abbrev pub IsWaitingLow : Waiting ℤ → Type 0
IsWaitingLow f = IsBandLow f.cb
