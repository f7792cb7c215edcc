-- The top of a line in one pass over the floats.
use Rattle.std.specs.Prelude.{ℤ, Bool, cond, int_lt, List, fold, Option, Some, None}
use Rattle.std.specs.Int.{int_min}
use Rattle.layout_semantics.specs.Floats.{FloatBox}
use Rattle.layout_semantics.specs.LineHeights.{InlineContext}
use Rattle.layout_laws.specs.Standing.{may_stand}

abbrev pub lower : Option ℤ → ℤ → ℤ
lower None t = t
lower (Some best) t = int_min t best

-- the lowest number so far that passes, with one number more
abbrev pub with_top : (ℤ → Bool) → Option ℤ → ℤ → Option ℤ
with_top passes best t = cond (passes t) (Some (lower best t)) best

abbrev pub with_float : (ℤ → Bool) → ℤ → Option ℤ → FloatBox → Option ℤ
with_float passes y best f = cond (int_lt y f.box.bottom) (with_top passes best f.box.bottom) best

abbrev pub top_or : ℤ → Option ℤ → ℤ
top_or y None = y
top_or y (Some best) = best

abbrev pub top_found : InlineContext → List FloatBox → ℤ → ℤ → ℤ → ℤ
top_found c floats y tall width =
    top_or y (fold (with_float (may_stand c floats tall width) y) (with_top (may_stand c floats tall width) None y)
    floats)
