use Rattle.std.proofs.Common.{◌≡◌, drop}
use Rattle.cert_check.specs.steps.Grids.{place_from, place_of}
use Rattle.cert_check.proofs.numbers.place_of.Given as goal

abbrev pub invariant-loop-step : goal.invariant-loop-step
invariant-loop-step l = place_from l.form (drop l.step-index l.above) l.values l.on ≡ place_of l.form l.above l.fn.world
