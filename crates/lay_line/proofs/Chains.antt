-- Causes of calls that follow one another: what a call asks is shown at each reading that is open before it.
use Rattle.std.proofs.Common.{◌≡◌, ◌⊎◌, IsTrue, Option, Some, None, inl, inr}
use Rattle.std.specs.Borrow.{GName}
use Rattle.std.specs.Prelude.{Result, Ok, Err, IfErr}
use Rattle.viz_base.specs.Numbers.{Rose}
use Rattle.viz_calc.specs.World.{Reading}
use Rattle.viz_calc.specs.Run.{Run, Goes, Blames, BlamesButMem, run_of}
use Rattle.viz_calc.specs.State.{State, CauseButMem}
use Rattle.viz_calc.specs.declared.calc.Halt.{Halt}
use Rattle.viz_calc.specs.declared.calc.Halt.TheVariants.{Mem, Coeff, Open}
use Rattle.viz_calc.proofs.Runs.{Goes-then, Blames-then, BlamesButMem-then}

-- what is asked at each reading that is open
abbrev pub Asked : Run → (Reading → Type 0) → Type 0
Asked a asks = (e : Reading) → IsTrue (a.is_open e) → asks e

-- ---- with memory

pub record Chain (a b : Run) (asks : Reading → Type 0) : Type 0 where
  pub goes : Goes a b
  pub cause : Blames a b (Asked a asks)

pub start : {a b : Run} {asks : Reading → Type 0} {fits : Type 0} → Goes a b → Blames a b fits → (Asked a asks → fits) → Chain a b asks
start goes cause gives = record {
  goes = goes;
  cause = record { mem = cause.mem; coeff = λ f. cause.coeff (gives f); opens = cause.opens };
}

pub next : {a b c : Run} {asks : Reading → Type 0} {fits : Type 0} → Chain a b asks → Goes b c → Blames b c fits → (Asked b asks → fits) → Chain a c asks
next first goes cause gives = record {
  goes = Goes-then _ _ _ first.goes goes;
  cause = Blames-then _ _ _ _ _ first.goes goes first.cause (λ f. gives (λ e o. f e (first.goes.closes e o))) cause;
}

-- ---- where memory may run out at any time

pub record ChainButMem (a b : Run) (asks : Reading → Type 0) : Type 0 where
  pub goes : Goes a b
  pub cause : BlamesButMem a b (Asked a asks)

pub but_mem : {a b : Run} {fits : Type 0} → Blames a b fits → BlamesButMem a b fits
but_mem cause = record { coeff = cause.coeff; opens = cause.opens }

pub start_but_mem : {a b : Run} {asks : Reading → Type 0} {fits : Type 0} → Goes a b → BlamesButMem a b fits → (Asked a asks → fits) → ChainButMem a b asks
start_but_mem goes cause gives = record { goes = goes; cause = record { coeff = λ f. cause.coeff (gives f); opens = cause.opens } }

pub next_but_mem : {a b c : Run} {asks : Reading → Type 0} {fits : Type 0} → ChainButMem a b asks → Goes b c → BlamesButMem b c fits → (Asked b asks → fits) → ChainButMem a c asks
next_but_mem first goes cause gives = record {
  goes = Goes-then _ _ _ first.goes goes;
  cause = BlamesButMem-then _ _ _ _ _ first.goes goes first.cause (λ f. gives (λ e o. f e (first.goes.closes e o))) cause;
}

-- ---- a calc that was lent, and its halt

pub told : {T : Type 0} (old new : State) (none halt : Option Halt) (lender last : GName) (asks : Reading → Type 0) (r : Result T Halt) → none ≡ None
    → BlamesButMem (run_of old none lender) (run_of new halt last) (Asked (run_of old none lender) asks) → IfErr r (λ h. halt ≡ Some h)
    → IfErr r (CauseButMem old new ((e : Reading) → IsTrue (old.is_open e) → asks e))
told old new (Some h) halt lender last asks r n b p = absurd (cc)
told old new None halt lender last asks (Ok v) n b p = tt
told old new None halt lender last asks (Err Mem) n b p = tt
told old new None halt lender last asks (Err Coeff) n b p = λ f. by (b.coeff f p)
  where
    by : (None ≡ Some Coeff) ⊎ Rose old.coeffs new.coeffs → Rose old.coeffs new.coeffs
    by (inl e) = absurd (cc)
    by (inr rose) = rose
told old new None halt lender last asks (Err Open) n b p = by (b.opens p)
  where
    by : (None ≡ Some Open) ⊎ Rose old.opens new.opens → Rose old.opens new.opens
    by (inl e) = absurd (cc)
    by (inr rose) = rose
