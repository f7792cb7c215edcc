-- What a stop says of a run.
use Rattle.std.proofs.Common.{◌≡◌, ℕ, List, ◌∷◌, Result, Err, refl, sym, ◌∙◌, ap, subst}
use Rattle.viz_base.specs.Answers.{FailsWith}
use Rattle.vis_read.specs.declared.faults.FormulaFault.{FormulaFault}
use Rattle.vis_read.specs.declared.faults.FormulaFault.TheVariants as of_fault
use Rattle.vis_read.specs.declared.faults.Stop.{Stop}
use Rattle.vis_read.specs.declared.faults.Stop.TheVariants as of_stop
use Rattle.vis_read.specs.declared.lexemes.Token.{Token}
use Rattle.vis_read.specs.declared.reading.Reading.{Reading}
use Rattle.vis_read.specs.steps.Machine.{ended, formula_read, refusal_of, step, taken}
use Rattle.vis_read.specs.steps.Verdicts.{Fails, end_with, fault_at, run, then_end, then_run}

-- where a stop is a fault at a place, what follows has that fault
placed : {A B : Type 0} (at : ℕ) (r : Result A Stop) (f : Result A Stop → Result B FormulaFault) → ((stop : Stop) → f (Err stop) ≡ Err (fault_at stop at))
    → (stop : Stop) → FailsWith (refusal_of stop) (λ given. r ≡ given) → Fails (fault_at stop at) (f r)
placed at r f says of_stop.Mem h = tt
placed at r f says of_stop.Bad h = ap f h ∙ says of_stop.Bad
placed at r f says of_stop.Unbound h = ap f h ∙ says of_stop.Unbound
placed at r f says of_stop.TooDeep h = ap f h ∙ says of_stop.TooDeep

-- a token at which reading stops is the fault of the run from there
pub stopped : (s : Reading) (t : Token) (ts : List Token) (stop : Stop) (fault : FormulaFault) → FailsWith (refusal_of stop) (λ given. taken (step s t.lexeme) ≡ given) → fault ≡ fault_at stop t.at
    → Fails fault (run s (t ∷ ts))
stopped s t ts stop fault h e =
    subst (λ x. Fails x (run s (t ∷ ts))) (sym e) (placed t.at (taken (step s t.lexeme)) (λ x. then_run t.at x (λ next. run next ts)) (λ other. refl) stop h)

-- so is the text's end where no formula is read
pub ends_badly : (end : ℕ) (s : Reading) (stop : Stop) (fault : FormulaFault) → FailsWith (refusal_of stop) (λ given. formula_read (ended s) ≡ given) → fault ≡ fault_at stop end
    → Fails fault (end_with end (formula_read (ended s)))
ends_badly end s stop fault h e =
    subst (λ x. Fails x (end_with end (formula_read (ended s)))) (sym e) (placed end (formula_read (ended s)) (end_with end) (λ other. refl) stop h)

-- a fault of the run is one of the whole
pub fails_on : (end : ℕ) (fault : FormulaFault) (r : Result Reading FormulaFault) → Fails fault r → Fails fault (then_end end r)
fails_on end of_fault.Mem r h = tt
fails_on end (of_fault.Bad at) r h = ap (then_end end) h
fails_on end (of_fault.Unbound at) r h = ap (then_end end) h
fails_on end (of_fault.TooDeep at) r h = ap (then_end end) h
