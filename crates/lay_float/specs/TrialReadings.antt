-- What floats that are tried mean at a reading.
use Rattle.std.specs.Prelude.{ℤ}
use Rattle.viz_calc.specs.World.{Reading}
use Rattle.viz_calc.specs.Renderings.{band_at}
use Rattle.layout_semantics.specs.Floats.{Floating}
use Rattle.lay_float.specs.Readings.{floats_at, extent_at}
use Rattle.lay_float.specs.Trials.{Tried}
use Rattle.lay_float.specs.declared.trial.Trial.{Trial}
use Rattle.lay_float.specs.declared.trial.Coming.{Coming}

abbrev pub coming_at : {N : Type 0} → (N → Reading → ℤ) → Coming N → Reading → Floating
coming_at at f e =
    record { side = f.side; clear = f.clear; size = extent_at at f.size.now e; cb = band_at at f.cb.now e }

abbrev pub trial_at : {N : Type 0} → (N → Reading → ℤ) → Trial N → Reading → Tried
trial_at at t e = record { all = floats_at at t.all e; near = floats_at at t.near e; level = at t.level e }
