use Rattle.std.specs.Prelude.{ℤ, pos, true, ◌&&◌, ◌==◌, ◌^◌, nat_le, unsigned_abs, if◌then◌else◌, Result, Ok, Err}
use Rattle.viz_calc.specs.World.{Reading}
use Rattle.viz_calc.specs.State.{State}
use Rattle.viz_base.specs.declared.worlds.World.{World}
use Rattle.viz_calc.specs.declared.calc.Halt.{Halt}
use Rattle.viz_calc.specs.declared.calc.Halt.TheVariants.{Coeff}

-- just this world is open, and kept
abbrev pub plain_state : World → State
plain_state w = record {
  is_open = λ e. (e.world.w == w.w) && (e.world.s == w.s) && (e.world.h == w.h);
  lean = true;
  coeffs = 0;
  opens = 0;
  kept = record { worlds = λ v. (v.w == w.w) && (v.s == w.s) && (v.h == w.h); coeffs = 0; opens = 0 };
}

-- the reading of a world that gives each floor term 0
abbrev pub plain_reading : World → Reading
plain_reading w = record { world = w; terms = λ _. pos 0 }

-- the value, if it is at most 2^100 in size
abbrev pub fitted : ℤ → Result ℤ Halt
fitted z = if nat_le (unsigned_abs z) (2 ^ 100) then Ok z else Err Coeff
