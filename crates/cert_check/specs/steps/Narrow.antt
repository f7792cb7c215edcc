use Rattle.std.specs.Prelude.{◌-◌, ◌^◌}
use Rattle.viz_base.specs.declared.worlds.World.{World}
use Rattle.viz_calc.specs.State.{State}
use Rattle.viz_calc.specs.Plain.{plain_state}

-- just this world is open, and kept; a number may be given up at any time, as the count of these stands at its end
abbrev pub narrow_state : World → State
narrow_state w = record (plain_state w) { coeffs = 2 ^ 64 - 1 }
