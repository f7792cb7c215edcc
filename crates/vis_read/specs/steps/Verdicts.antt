-- What reading all tokens says of a text, and which answer of the code stands for it. Want of memory is free.
use Rattle.std.specs.Prelude.{◌≡◌, ℕ, List, [], ◌∷◌, Option, Some, None, Result, Ok, Err}
use Rattle.viz_base.specs.Answers.{FailsWith, Gives}
use Rattle.viz_base.specs.declared.formulas.Formula.{Formula}
use Rattle.vis_read.specs.declared.faults.FormulaFault.{FormulaFault}
use Rattle.vis_read.specs.declared.faults.FormulaFault.TheVariants as of_fault
use Rattle.vis_read.specs.declared.faults.Stop.{Stop}
use Rattle.vis_read.specs.declared.faults.Stop.TheVariants as of_stop
use Rattle.vis_read.specs.declared.lexemes.Token.{Token}
use Rattle.vis_read.specs.declared.reading.Reading.{Reading}
use Rattle.vis_read.specs.steps.Machine.{ended, formula_read, initial, step, taken}

-- the fault that a stop is at a place
abbrev pub fault_at : Stop → ℕ → FormulaFault
fault_at of_stop.Mem at = of_fault.Mem
fault_at of_stop.Bad at = of_fault.Bad at
fault_at of_stop.Unbound at = of_fault.Unbound at
fault_at of_stop.TooDeep at = of_fault.TooDeep at

-- what follows a token at a place
abbrev pub then_run : ℕ → Result Reading Stop → (Reading → Result Reading FormulaFault) → Result Reading FormulaFault
then_run at (Ok s) f = f s
then_run at (Err stop) f = Err (fault_at stop at)

-- all tokens, up to the first that may not stand where it stands
abbrev pub run : Reading → List Token → Result Reading FormulaFault
run s [] = Ok s
run s (t ∷ ts) = then_run t.at (taken (step s t.lexeme)) (λ next. run next ts)

abbrev pub end_with : ℕ → Result Formula Stop → Result Formula FormulaFault
end_with end (Ok f) = Ok f
end_with end (Err stop) = Err (fault_at stop end)

abbrev pub then_end : ℕ → Result Reading FormulaFault → Result Formula FormulaFault
then_end end (Ok s) = end_with end (formula_read (ended s))
then_end end (Err fault) = Err fault

-- what the tokens of a text that ends at a place are
abbrev pub verdict : ℕ → List Token → Result Formula FormulaFault
verdict end ts = then_end end (run initial ts)

-- the refusal that a fault names: itself
abbrev pub refusal_of : FormulaFault → Option FormulaFault
refusal_of of_fault.Mem = None
refusal_of fault = Some fault

abbrev pub Fails : {A : Type 0} → FormulaFault → Result A FormulaFault → Type 0
Fails fault answer = FailsWith (refusal_of fault) (λ given. answer ≡ given)

abbrev pub Judges : {A : Type 0} → Result A FormulaFault → Result A FormulaFault → Type 0
Judges result answer = Gives (λ x. x) refusal_of result answer
