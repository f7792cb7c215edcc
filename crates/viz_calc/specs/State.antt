use Rattle.std.specs.Prelude.{◌≡◌, ◌≤◌, ◌⊎◌, ◌^◌, ℕ, ℤ, Bool, true, false, not, ◌||◌, nat_lt, IsTrue, unsigned_abs, List, [], ◌∷◌, Option, Some, Result, IfErr}
use Rattle.viz_calc.specs.World.{Reading}
use Rattle.viz_base.specs.declared.worlds.World.{World}
use Rattle.viz_base.specs.Numbers.{Rose}
use Rattle.viz_calc.specs.declared.calc.Halt.{Halt}
use Rattle.viz_calc.specs.declared.calc.Halt.TheVariants.{Mem, Coeff, Open}

-- worlds that a calc keeps, with its counts of faults when it began to
pub record Kept : Type 0 where
  pub worlds : World → Bool
  pub coeffs : ℕ
  pub opens : ℕ

-- what a calc is, for a proof
pub record State : Type 0 where
  pub is_open : Reading → Bool
  pub lean : Bool
  pub coeffs : ℕ
  pub opens : ℕ
  pub kept : Kept

-- this holds at each reading that is open
abbrev pub WhereOpen : (Reading → Bool) → (Reading → Type 0) → Type 0
WhereOpen is_open P = (e : Reading) → IsTrue (is_open e) → P e

-- the number has this value at each reading that is open
abbrev pub Stands : State → (Reading → ℤ) → (Reading → ℤ) → Type 0
Stands s n f = (e : Reading) → IsTrue (s.is_open e) → n e ≡ f e

-- the world is open: it has a reading that is
pub record IsOpenWorld (s : State) (w : World) : Type 0 where
  pub reading : Reading
  pub world : reading.world ≡ w
  pub is_open : IsTrue (s.is_open reading)

-- no world was closed
pub record KeepsWorlds (old new : State) : Type 0 where
  pub keeps : (w : World) → IsOpenWorld old w → IsOpenWorld new w

-- nothing that was known is lost, and the same worlds are kept
pub record Grows (old new : State) : Type 0 where
  pub closes : (e : Reading) → IsTrue (new.is_open e) → IsTrue (old.is_open e)
  pub lean : new.lean ≡ old.lean
  pub coeffs : old.coeffs ≤ new.coeffs
  pub opens : old.opens ≤ new.opens
  pub kept : new.kept ≡ old.kept

-- each of these worlds is open, unless a fault was counted since they are kept
abbrev pub AreOpen : Kept → State → Type 0
AreOpen kept s = (w : World) → IsTrue (kept.worlds w) → IsOpenWorld s w
    ⊎ (Rose kept.coeffs s.coeffs ⊎ Rose kept.opens s.opens)

-- the number is at most 2^100 in size
abbrev pub IsSmall : ℤ → Type 0
IsSmall z = unsigned_abs z ≤ 2 ^ 100

-- each of these is
abbrev pub AllSmall : List ℤ → Type 0
AllSmall [] = Unit {0}
AllSmall (z ∷ zs) = IsSmall z × AllSmall zs

-- at each open reading these are at most 2^100 in size
abbrev pub Fits : State → (Reading → List ℤ) → Type 0
Fits s parts = (e : Reading) → IsTrue (s.is_open e) → AllSmall (parts e)

-- a calc that counts each coefficient past its limit has counted this one
abbrev pub IsCounted : Bool → State → State → Halt → Type 0
IsCounted counts old new h = counts ≡ true → h ≡ Coeff → Rose old.coeffs new.coeffs

-- a halt is told by the counts: a comparison that was left open was counted, and
-- so was a coefficient past its limit, by a calc that counts each
abbrev pub is_told : Bool → State → Option Halt → Bool
is_told counts s (Some Open) = nat_lt 0 s.opens
is_told counts s (Some Coeff) = not counts || nat_lt 0 s.coeffs
is_told counts s halt = true

-- why a call may halt, given that what it computes fits
abbrev pub Cause : State → State → Type 0 → Halt → Type 0
Cause old new fits Mem = old.lean ≡ false
Cause old new fits Coeff = fits → Rose old.coeffs new.coeffs
Cause old new fits Open = Rose old.opens new.opens

-- the same, where memory may run out at any time
abbrev pub CauseButMem : State → State → Type 0 → Halt → Type 0
CauseButMem old new fits Mem = Unit {0}
CauseButMem old new fits Coeff = fits → Rose old.coeffs new.coeffs
CauseButMem old new fits Open = Rose old.opens new.opens

-- the answer is not `Open`: only a comparison can be left open
abbrev pub IsDecided : {A : Type 0} → Result A Halt → Type 0
IsDecided r = IfErr r (λ h. h ≡ Open → ⊥)
