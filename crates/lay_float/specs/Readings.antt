-- Floats and sizes at a reading.
use Rattle.std.specs.Prelude.{ℤ, List, map, Option, option_map}
use Rattle.viz_base.specs.declared.layouts.Extent.{Extent}
use Rattle.viz_calc.specs.World.{Reading}
use Rattle.viz_calc.specs.Renderings.{quad_at}
use Rattle.layout_semantics.specs.Floats.{FloatBox}
use Rattle.lay_float.specs.declared.floats.PlacedFloat.{PlacedFloat}
use Rattle.lay_float.specs.declared.floats.Floats.{Floats}

-- a placed float at a reading
abbrev pub box_at : {N : Type 0} → (N → Reading → ℤ) → PlacedFloat N → Reading → FloatBox
box_at at f e = record { side = f.side; box = quad_at at f.outer e }

-- the floats of a list at a reading
abbrev pub boxes_at : {N : Type 0} → (N → Reading → ℤ) → List (PlacedFloat N) → Reading → List FloatBox
boxes_at at fs e = map (λ f. box_at at f e) fs

-- the floats of a context at a reading
abbrev pub floats_at : {N : Type 0} → (N → Reading → ℤ) → Floats N → Reading → List FloatBox
floats_at at floats e = boxes_at at floats.placed e

abbrev pub extent_at : {N : Type 0} → (N → Reading → ℤ) → Extent N → Reading → Extent ℤ
extent_at at s e = record { width = at s.width e; height = at s.height e }

-- a number at a reading, where there is one
abbrev pub option_at : {N : Type 0} → (N → Reading → ℤ) → Option N → Reading → Option ℤ
option_at at n e = option_map (λ n. at n e) n
