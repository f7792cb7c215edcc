use Rattle.std.specs.Prelude.{◌≡◌, ◌≤◌, ◌⊎◌, ℕ, ℤ, Bool, false, IsTrue, List, Option, Some, None}
use Rattle.std.specs.Borrow.{GName}
use Rattle.viz_base.specs.Numbers.{Rose}
use Rattle.viz_calc.specs.World.{Reading}
use Rattle.viz_calc.specs.State.{State, Kept, AllSmall}
use Rattle.viz_calc.specs.declared.calc.Halt.{Halt}
use Rattle.viz_calc.specs.declared.calc.Halt.TheVariants.{Mem, Coeff, Open}

-- what a steady calc is, for a proof: once it is halted, no reading is open
pub record Run : Type 0 where
  pub is_open : Reading → Bool
  pub reached : Reading → Bool
  pub lean : Bool
  pub coeffs : ℕ
  pub opens : ℕ
  pub kept : Kept
  pub halt : Option Halt
  pub lender : GName

-- the number has this value at each reading that is open
abbrev pub Stands : Run → (Reading → ℤ) → (Reading → ℤ) → Type 0
Stands s n f = (e : Reading) → IsTrue (s.is_open e) → n e ≡ f e

-- nothing that was known is lost
pub record Goes (old new : Run) : Type 0 where
  pub closes : (e : Reading) → IsTrue (new.is_open e) → IsTrue (old.is_open e)
  pub reached : (e : Reading) → IsTrue (new.reached e) → IsTrue (old.reached e)
  pub lean : new.lean ≡ old.lean
  pub coeffs : old.coeffs ≤ new.coeffs
  pub opens : old.opens ≤ new.opens
  pub kept : new.kept ≡ old.kept
  pub lender : new.lender ≡ old.lender

-- at each open reading these are at most 2^100 in size
abbrev pub Fits : Run → (Reading → List ℤ) → Type 0
Fits s parts = (e : Reading) → IsTrue (s.is_open e) → AllSmall (parts e)

-- why it may have halted, given that what it computes fits
pub record Blames (old new : Run) (fits : Type 0) : Type 0 where
  pub mem : new.halt ≡ Some Mem → (old.halt ≡ Some Mem) ⊎ (old.lean ≡ false)
  pub coeff : fits → new.halt ≡ Some Coeff → (old.halt ≡ Some Coeff) ⊎ Rose old.coeffs new.coeffs
  pub opens : new.halt ≡ Some Open → (old.halt ≡ Some Open) ⊎ Rose old.opens new.opens

-- the same, where memory may run out at any time
pub record BlamesButMem (old new : Run) (fits : Type 0) : Type 0 where
  pub coeff : fits → new.halt ≡ Some Coeff → (old.halt ≡ Some Coeff) ⊎ Rose old.coeffs new.coeffs
  pub opens : new.halt ≡ Some Open → (old.halt ≡ Some Open) ⊎ Rose old.opens new.opens

-- what a function of the engine keeps to: the run goes on; at each reading that stays open what is given
-- is what is meant; and a halt has one of the causes that there are where all this fits
abbrev pub Lays : {C T : Type 0} → (C → Run) → C → C → (Reading → T) → (Reading → T) → (Reading → Type 0) → Type 0
Lays run old new given meant fits = record {
  goes : Goes (run old) (run new);
  value : (e : Reading) → IsTrue ((run new).is_open e) → given e ≡ meant e;
  cause : Blames (run old) (run new) ((e : Reading) → IsTrue ((run old).is_open e) → fits e);
}

-- the same, where memory may run out at any time
abbrev pub LaysButMem : {C T : Type 0} → (C → Run) → C → C → (Reading → T) → (Reading → T) → (Reading → Type 0) → Type 0
LaysButMem run old new given meant fits = record {
  goes : Goes (run old) (run new);
  value : (e : Reading) → IsTrue ((run new).is_open e) → given e ≡ meant e;
  cause : BlamesButMem (run old) (run new) ((e : Reading) → IsTrue ((run old).is_open e) → fits e);
}

-- what holds unless there was a halt
abbrev pub unless : Option Halt → Bool → Bool
unless None b = b
unless (Some h) b = false

-- the run of a calc that is lent, with its halt
abbrev pub run_of : State → Option Halt → GName → Run
run_of s halt name = record {
  is_open = λ e. unless halt (s.is_open e);
  reached = s.is_open;
  lean = s.lean;
  coeffs = s.coeffs;
  opens = s.opens;
  kept = s.kept;
  halt = halt;
  lender = name;
}
