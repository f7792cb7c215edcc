use Rattle.std.proofs.Common.{◌≡◌, ℤ, Bool, true, false, nat_le, unsigned_abs, ◌^◌, ◌<◌, Result, Ok, Err, IfErr, IsTrue, [], ◌∷◌, cond, refl, arith}
use Rattle.std.proofs.lemmas.Bool.Decides.{nat_tests}
use Rattle.viz_base.specs.declared.worlds.World.{World}
use Rattle.viz_calc.specs.declared.calc.Halt.{Halt}
use Rattle.viz_calc.specs.declared.calc.Halt.TheVariants.{Mem, Coeff, Open}
use Rattle.viz_calc.specs.State.{IsOpenWorld, Cause, Fits, Grows}
use Rattle.viz_calc.specs.Plain.{plain_state, plain_reading, fitted}

pub open_reading : (w : World) → IsTrue ((plain_state w).is_open (plain_reading w))
open_reading w = grind (arith, nat_tests)

by_test : (w : World) (z : ℤ) (b : Bool) (h : Halt) → ◌≡◌ {A = Result ℤ Halt} (Err h) (cond b (Ok z) (Err Coeff)) → nat_le (unsigned_abs z) (2 ^ 100) ≡ b → Cause (plain_state w) (plain_state w) (Fits (plain_state w) (λ e. z ∷ [])) h
by_test w z true h e t = absurd (cc)
by_test w z false Mem e t = absurd (cc)
by_test w z false Open e t = absurd (cc)
by_test w z false Coeff e t = λ fits. let small = (fits (plain_reading w) (open_reading w)).0 in absurd (grind (arith, nat_tests))

-- a value that was given up passes the limit
pub Cause-fitted : (w : World) (z : ℤ) (r : Result ℤ Halt) → r ≡ fitted z → IfErr r (Cause (plain_state w) (plain_state w) (Fits (plain_state w) (λ e. z ∷ [])))
Cause-fitted w z (Ok n) e = tt
Cause-fitted w z (Err h) e = by_test w z (nat_le (unsigned_abs z) (2 ^ 100)) h e refl

-- a value past the limit
pub fitted_past : (z : ℤ) → 2 ^ 100 < unsigned_abs z → Err Coeff ≡ fitted z
fitted_past z h = grind (arith, nat_tests)

-- a world that still has its reading open is the same
pub world-stays : (old new : World) → Grows (plain_state old) (plain_state new) → new ≡ old
world-stays old new g = let o = g.closes (plain_reading new) (open_reading new) in grind (arith, nat_tests)

-- so its own reading is still open
pub still_open : (old new : World) → Grows (plain_state old) (plain_state new) → IsTrue ((plain_state new).is_open (plain_reading old))
still_open old new g = rw (world-stays old new g) (open_reading old)

-- the world that it keeps is open
pub kept_open : (w v : World) → IsTrue ((plain_state w).kept.worlds v) → IsOpenWorld (plain_state w) v
kept_open w v t = record { reading = plain_reading v; world = refl; is_open = t }
