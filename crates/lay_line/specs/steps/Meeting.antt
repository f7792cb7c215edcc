-- Floats that a line meets, one by one, and its top.
use Rattle.std.specs.Prelude.{ℕ, ℤ, Bool, not, cond, ◌&&◌, ◌||◌, List, [], ◌∷◌, ◌++◌, fold, Option, Some, None}
use Rattle.std.specs.List.{list_any}
use Rattle.std.specs.Ordering.{int_eq}
use Rattle.viz_base.specs.declared.layouts.Spot.{Spot}
use Rattle.layout_semantics.specs.Floats.{FloatBox, meets}
use Rattle.layout_semantics.specs.InlineContent.{Item, float}
use Rattle.layout_semantics.specs.LineHeights.{InlineContext}
use Rattle.layout_semantics.specs.LineFilling.{Met, fits, none_waits, with_waiting}
use Rattle.lay_line.specs.steps.Tops.{with_float, top_or}
use Rattle.lay_line.specs.steps.Words.{spot_in, floats_with, room_in}

-- where a line is: its top, the height of the tallest line, and the highest top of its floats
pub record Slot : Type 0 where
  pub top : ℤ
  pub tall : ℤ
  pub least : ℤ

-- the float that an item is
abbrev pub float_in : Item → Option ℕ
float_in (float at) = Some at
float_in _ = None

-- with one that stands
abbrev pub kept_at : InlineContext → Met → ℕ → Spot ℤ → Met
kept_at c met at spot =
    record { spots = met.spots ++ (at, spot) ∷ []; floats = floats_with c met.floats at spot; waiting = met.waiting }

unfoldable pub placed_next : InlineContext → ℤ → ℤ → Met → ℕ → Met
placed_next c least y met at = kept_at c met at (spot_in c met.floats least y at)

abbrev pub placed_all : InlineContext → ℤ → ℤ → Met → List ℕ → Met
placed_all c least y met [] = met
placed_all c least y met (at ∷ boxes) = placed_all c least y (placed_next c least y met at) boxes

-- whether a float stands at the top of a line that holds so much, and leaves it room
abbrev pub leaves : InlineContext → Slot → ℤ → List FloatBox → ℤ → Bool
leaves c slot held floats y = int_eq y slot.top && fits held (room_in c floats slot.top slot.tall)

abbrev pub met_at_spot : InlineContext → Slot → ℤ → Met → ℕ → Spot ℤ → Met
met_at_spot c slot held met at spot =
    cond (leaves c slot held (floats_with c met.floats at spot) spot.y) (kept_at c met at spot) (with_waiting met at)

-- with one that is met
unfoldable pub met_next : InlineContext → Slot → ℤ → Met → ℕ → Met
met_next c slot held met at =
    cond (none_waits met) (met_at_spot c slot held met at (spot_in c met.floats slot.least slot.top at))
    (with_waiting met at)

abbrev pub met_all : InlineContext → Slot → ℤ → Met → List ℕ → Met
met_all c slot held met [] = met
met_all c slot held met (at ∷ boxes) = met_all c slot held (met_next c slot held met at) boxes

-- ---- the top

-- whether a segment of this width may stand there: beside no float, or where it fits
unfoldable pub stands_at : InlineContext → List FloatBox → ℤ → ℤ → ℤ → Bool
stands_at c floats tall width top = not (list_any (meets top tall) floats) || fits width (room_in c floats top tall)

-- from y on, or else from the highest bottom below where it may
unfoldable pub top_in : InlineContext → List FloatBox → ℤ → ℤ → ℤ → ℤ
top_in c floats y tall width =
    cond (stands_at c floats tall width y) y
    (top_or y (fold (with_float (stands_at c floats tall width) y) None floats))
