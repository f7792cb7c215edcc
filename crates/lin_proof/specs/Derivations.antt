-- Which derivations are right: which forms are known at each line, and which line is the first wrong one.
use Rattle.std.specs.Prelude.{◌≡◌, ℕ, ◌+◌, ◌-◌, ◌==◌, nat_lt, ℤ, pos, Bool, false, ◌&&◌, List, [], ◌∷◌, ◌++◌, length, Option, Some, None, Result, Ok, Err, slice_get, if◌then◌else◌, option_and_then}
use Rattle.std.specs.Option.{ok_or}
use Rattle.std.specs.Result.{result_err}
use Rattle.std.specs.List.{list_all}
use Rattle.std.specs.Int.Signed.{lt_z}
use Rattle.lin_proof.specs.declared.derivation.Step.{Step}
use Rattle.lin_proof.specs.declared.derivation.Step.TheVariants.{Fact, Sum, Cut}
use Rattle.lin_proof.specs.declared.derivation.Derivation.{Derivation}
use Rattle.lin_proof.specs.declared.derivation.Branch.{Branch}
use Rattle.lin_proof.specs.declared.derivation.Ending.{Ending}
use Rattle.lin_proof.specs.declared.derivation.Ending.TheFolds.{fold-Ending, fold-Derivation, fold-Branch}
use Rattle.lin_proof.specs.declared.derivation.Ending.TheOpen.{Ending-F, Branch-F, Derivation-F}
use Rattle.lin_proof.specs.Form.{Form, Terms, plus, denied, checked_form}
use Rattle.lin_proof.specs.Cut.{divides, cut}

infixl 10 ◌>>=◌
abbrev pub ◌>>=◌ : {A B E : Type 0} → Result A E → (A → Result B E) → Result B E
(Ok x) >>= f = f x
(Err e) >>= f = Err e

abbrev pub zero_form : Form
zero_form = record { k = pos 0; terms = [] }

abbrev pub checked_plus : Form → ℤ → Form → Option Form
checked_plus f m g = if lt_z (pos 0) m then checked_form (plus f m g) else None

-- a form plus a positive multiple of a known one, the sum being in `i128`
abbrev pub add_part : List Form → Form → ℤ × ℕ → Option Form
add_part known f p = option_and_then (checked_plus f p.0) (slice_get known p.1)

-- such multiples added one after another
abbrev pub sum_from : List Form → Form → List (ℤ × ℕ) → Option Form
sum_from known f [] = Some f
sum_from known f (p ∷ ps) = option_and_then (λ sum. sum_from known sum ps) (add_part known f p)

-- a form divided by a number that divides it
abbrev pub cut_of : ℤ → Form → Option Form
cut_of d f = if divides d f then Some (cut d f) else None

-- the form that a step makes, if it is right
abbrev pub step_form : List Form → List Form → Step → Option Form
step_form facts known (Fact n) = slice_get facts n
step_form facts known (Sum parts) = sum_from known zero_form parts
step_form facts known (Cut d n) = option_and_then (cut_of d) (slice_get known n)

-- all forms known after the steps, with the next line's number, or the first wrong line
abbrev pub run_steps : List Form → List Form → ℕ → List Step → Result (List Form × ℕ) ℕ
run_steps facts known line [] = Ok (known, line)
run_steps facts known line (step ∷ steps) =
    ok_or (step_form facts known step) line >>= λ f. run_steps facts (known ++ f ∷ []) (line + 1) steps

abbrev pub last_of : List Form → Option Form
last_of known = slice_get known (length known - 1)

-- no variables, and below 0
abbrev pub is_contradiction : Option Form → Bool
is_contradiction None = false
is_contradiction (Some f) = length f.terms == 0 && lt_z f.k (pos 0)

abbrev pub are_declared : ℕ → Terms → Bool
are_declared vars = list_all (λ t. nat_lt t.0 vars)

-- What a part of a derivation gives, from the forms known before and its first line's number:
-- the number of the line after it, or of the first wrong line.
abbrev pub Check : Type 0
Check = List Form → ℕ → Result ℕ ℕ

abbrev pub ending_step : Ending-F Check Check Check → Check
ending_step Ending-F.Closed known line =
    if is_contradiction (last_of known) then Ok (line + 1) else Err line
ending_step (Ending-F.Cases branch) known line = branch known line

abbrev pub case_form : ℕ → Form → Option Form
case_form vars f = if are_declared vars f.terms then checked_form (denied f) else None

abbrev pub branch_step : ℕ → Branch-F Check Check Check → Check
branch_step vars b known line =
    ok_or (case_form vars b.row) line >>= λ other. b.first (known ++ b.row ∷ []) (line + 1) >>= b.second
    (known ++ other ∷ [])

abbrev pub derivation_step : List Form → Derivation-F Check Check Check → Check
derivation_step facts d known line = run_steps facts known line d.steps >>= λ after. d.last after.0 after.1

abbrev pub check_derivation : List Form → ℕ → Derivation → Check
check_derivation facts vars = fold-Derivation Check Check Check ending_step (branch_step vars) (derivation_step facts)

abbrev pub check_ending : List Form → ℕ → Ending → Check
check_ending facts vars = fold-Ending Check Check Check ending_step (branch_step vars) (derivation_step facts)

abbrev pub check_branch : List Form → ℕ → Branch → Check
check_branch facts vars = fold-Branch Check Check Check ending_step (branch_step vars) (derivation_step facts)

-- the number of the first wrong line, or nothing
abbrev pub first_fault : List Form → ℕ → Derivation → Option ℕ
first_fault facts vars d = result_err (check_derivation facts vars d [] 0)

abbrev pub Refutes : List Form → ℕ → Derivation → Type 0
Refutes facts vars d = first_fault facts vars d ≡ None

abbrev pub count_ending : Ending-F ℕ ℕ ℕ → ℕ
count_ending Ending-F.Closed = 1
count_ending (Ending-F.Cases branch) = branch

abbrev pub count_branch : Branch-F ℕ ℕ ℕ → ℕ
count_branch b = 1 + b.first + b.second

abbrev pub count_derivation : Derivation-F ℕ ℕ ℕ → ℕ
count_derivation d = length d.steps + d.last

-- how many lines a derivation has
abbrev pub lines_of : Derivation → ℕ
lines_of = fold-Derivation ℕ ℕ ℕ count_ending count_branch count_derivation

abbrev pub lines_in : Ending → ℕ
lines_in = fold-Ending ℕ ℕ ℕ count_ending count_branch count_derivation

abbrev pub lines_under : Branch → ℕ
lines_under = fold-Branch ℕ ℕ ℕ count_ending count_branch count_derivation
