-- What a public call says, from what its engine says within a latch.
use Rattle.std.proofs.Common.{◌≡◌, IsTrue, Option, Some, None, Result, Ok, Err, IfOk, IfErr, sym, subst, ap, ◌∙◌, is_some, OnErr, arith, rules}
use Rattle.std.specs.Borrow.{GName}
use Rattle.viz_calc.specs.World.{Reading}
use Rattle.viz_calc.specs.State.{State, Grows, AreOpen, Cause, CauseButMem}
use Rattle.viz_calc.specs.Run.{Goes, Blames, BlamesButMem, run_of, unless}
use Rattle.viz_calc.specs.declared.calc.Halt.{Halt}
use Rattle.viz_calc.specs.declared.calc.Halt.TheVariants.{Mem, Coeff, Open}

-- a calc that a latch is lent at the start, not halted, and gives back at the end
pub record IsLent (old new start end : State) (halt : Option Halt) : Type 0 where
  pub at_start : start ≡ old
  pub running : halt ≡ None
  pub at_end : new ≡ end

pub grows : (old new start end : State) (halt last : Option Halt) (name given : GName) → IsLent old new start end halt → Goes (run_of start halt name) (run_of end last given) → Grows old new
grows old new start end halt last name given lent g =
    subst (λ s. Grows s new) lent.at_start (subst (Grows start) (sym lent.at_end) record {
      closes = g.reached;
      lean = g.lean;
      coeffs = g.coeffs;
      opens = g.opens;
      kept = g.kept;
    })

pub keeps : (old new start end : State) (halt last : Option Halt) (name given : GName) → IsLent old new start end halt → Goes (run_of start halt name) (run_of end last given) → AreOpen new.kept new → AreOpen old.kept new
keeps old new start end halt last name given lent g o = subst (λ k. AreOpen k new) (ap (λ s. s.kept) lent.at_end ∙ g.kept ∙ ap (λ s. s.kept) lent.at_start) o

-- what is open of the calc is open within the latch at its start
pub opened : (old new start end : State) (halt : Option Halt) → IsLent old new start end halt → (e : Reading) → IsTrue (unless halt (start.is_open e)) → IsTrue (old.is_open e)
opened old new start end halt lent e o = subst (λ s. IsTrue (s.is_open e)) lent.at_start (subst (λ h. IsTrue (unless h (start.is_open e))) lent.running o)

-- what holds of the engine's value holds of the result
pub told : {A : Type 0} (P : A → Reading → Type 0) (r : Result A Halt) (v : A) (old new start end : State) (halt last : Option Halt) → IsLent old new start end halt → IfOk r (λ r. r ≡ v)
    → IfOk r (λ r. last ≡ None) → ((e : Reading) → IsTrue (unless last (end.is_open e)) → P v e) → IfOk r (λ r. (e : Reading) → IsTrue (new.is_open e) → P r e)
told P (Ok x) v old new start end halt last lent is running says = λ e o.
    subst (λ y. P y e) (sym is) (says e (subst (λ h. IsTrue (unless h (end.is_open e))) (sym running) (subst (λ s. IsTrue (s.is_open e)) lent.at_end o)))
told P (Err h) v old new start end halt last lent is running says = tt

pub caused : {A : Type 0} (r : Result A Halt) (old new start end : State) (halt last : Option Halt) (name given : GName) (fits more : Type 0) → IsLent old new start end halt → (more → fits)
    → Blames (run_of start halt name) (run_of end last given) fits → IfErr r (λ h. last ≡ Some h) → IfErr r (Cause old new more)
caused r old new start end halt last name given fits more lent w blames is =
    subst (λ s. IfErr r (Cause s new more)) lent.at_start (subst (λ s. IfErr r (Cause start s more)) (sym lent.at_end) (by_result r is))
  where
    by_result : {A : Type 0} (r : Result A Halt) → IfErr r (λ h. last ≡ Some h) → IfErr r (Cause start end more)
    by_result (Ok x) is = tt
    by_result (Err Mem) is = let said = blames.mem is in let none = lent.running in grind arith
    by_result (Err Coeff) is = λ m. let said = blames.coeff (w m) is in let none = lent.running in grind arith
    by_result (Err Open) is = let said = blames.opens is in let none = lent.running in grind arith

pub caused_but_mem : {A : Type 0} (r : Result A Halt) (old new start end : State) (halt last : Option Halt) (name given : GName) (fits more : Type 0) → IsLent old new start end halt → (more → fits)
    → BlamesButMem (run_of start halt name) (run_of end last given) fits → IfErr r (λ h. last ≡ Some h) → IfErr r (CauseButMem old new more)
caused_but_mem r old new start end halt last name given fits more lent w blames is =
    subst (λ s. IfErr r (CauseButMem s new more)) lent.at_start (subst (λ s. IfErr r (CauseButMem start s more)) (sym lent.at_end) (by_result r is))
  where
    by_result : {A : Type 0} (r : Result A Halt) → IfErr r (λ h. last ≡ Some h) → IfErr r (CauseButMem start end more)
    by_result (Ok x) is = tt
    by_result (Err Mem) is = tt
    by_result (Err Coeff) is = λ m. let said = blames.coeff (w m) is in let none = lent.running in grind arith
    by_result (Err Open) is = let said = blames.opens is in let none = lent.running in grind arith

-- the same, where it holds at any reading
pub holds : {A : Type 0} (P : A → Type 0) (r : Result A Halt) (v : A) → IfOk r (λ r. r ≡ v) → P v → IfOk r P
holds P (Ok x) v is p = subst P (sym is) p
holds P (Err h) v is p = tt

-- what holds after a halt
pub halted : {A : Type 0} (P : Type 0) (r : Result A Halt) (last : Option Halt) → IfErr r (λ h. last ≡ Some h) → (IsTrue (is_some last) → P) → OnErr r P
halted P (Ok x) last is w = tt
halted P (Err h) last is w = w (subst (λ l. IsTrue (is_some l)) (sym is) (search rules))
