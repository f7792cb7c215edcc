use Rattle.std.specs.Prelude.{ℤ, ◌||◌, Bool, List}
use Rattle.layout_semantics.specs.Floats.{FloatBox, band_at}
use Rattle.layout_semantics.specs.LineHeights.{InlineContext}
use Rattle.layout_semantics.specs.LineFilling.{fits, meets_none}

-- a line whose first segment is so wide may stand at this top, beside floats over
-- the height of the tallest line: the segment fits, or no float is met
abbrev pub may_stand : InlineContext → List FloatBox → ℤ → ℤ → ℤ → Bool
may_stand c floats tall width top = fits width (band_at floats c.cb top tall) || meets_none floats top tall
