-- The numbers of 64 bits stay at their world.
use Rattle.std.proofs.Common.{◌≡◌, arith}
use Rattle.std.proofs.lemmas.Bool.Decides.{nat_tests}
use Rattle.viz_base.specs.declared.worlds.World.{World}
use Rattle.viz_calc.specs.State.{Grows}
use Rattle.viz_calc.specs.Plain.{plain_reading}
use Rattle.viz_calc.proofs.PlainLemmas.{open_reading}
use Rattle.cert_check.specs.steps.Narrow.{narrow_state}

pub narrow-stays : (old new : World) → Grows (narrow_state old) (narrow_state new) → new ≡ old
narrow-stays old new g = let o = g.closes (plain_reading new) (open_reading new) in grind (arith, nat_tests)
