-- Why a comparison is left open.
use Rattle.std.specs.Prelude.{ℕ, List, [], ◌∷◌, ◌++◌, Option, Some, None, slice_get, if◌then◌else◌}
use Rattle.std.specs.Option.{option_map}
use Rattle.lin_proof.specs.Form.{Form}
use Rattle.lin_proof.specs.declared.derivation.Answer.{Answer}
use Rattle.lin_proof.specs.Derivations.{first_fault}
use Rattle.cert_semantics.specs.Shapes.{same_row}
use Rattle.sym_calc.specs.declared.troubles.Trouble.{Trouble}
use Rattle.sym_calc.specs.declared.troubles.Trouble.TheVariants.{Line, Differs, Short}
use Rattle.sym_calc.specs.Knowledge.{contrary}

-- an answer, of this number, on a row: whether it is to that row, and the first wrong line of its derivation, which is
-- from the facts and behind them the row that is at least 0 where the answer is wrong
abbrev pub trouble_of : List Form → ℕ → ℕ → Form → Answer → Option Trouble
trouble_of facts variables number row answer =
    if same_row row answer.row
    then option_map (Line number) (first_fault (facts ++ contrary answer.yes row ∷ []) variables answer.why)
    else Some (Differs number row answer.row)

-- why the next answer of a tape leaves a row open, if it does; after its last answer it always does
abbrev pub trouble_by : List Form → ℕ → ℕ → Form → Option Answer → Option Trouble
trouble_by facts variables number row None = Some Short
trouble_by facts variables number row (Some answer) = trouble_of facts variables number row answer

abbrev pub trouble_at : List Form → ℕ → List Answer → ℕ → Form → Option Trouble
trouble_at facts variables tape taken row = trouble_by facts variables taken row (slice_get tape taken)

-- the first of two troubles stays
abbrev pub first_of : Option Trouble → Option Trouble → Option Trouble
first_of None later = later
first_of (Some trouble) later = Some trouble
