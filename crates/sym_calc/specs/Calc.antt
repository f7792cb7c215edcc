-- What a symbolic calc is for its contracts.
use Rattle.std.specs.Prelude.{◌≡◌, ℕ, ◌+◌, Bool, true, not, ◌&&◌, ◌||◌, List, ◌++◌, length, Option, Some, None, is_none, slice_get, if◌then◌else◌}
use Rattle.viz_calc.specs.State.{State}
use Rattle.lin_proof.specs.Form.{Form, form_fits}
use Rattle.lin_proof.specs.declared.derivation.Answer.{Answer}
use Rattle.cert_semantics.specs.Axes.{axis_count}
use Rattle.cert_semantics.specs.Shapes.{has_variable}
use Rattle.sym_calc.specs.declared.floors.Floor.{Floor}
use Rattle.sym_calc.specs.declared.sym.Sym.{Sym}
use Rattle.sym_calc.specs.declared.told.Told.{Told}
use Rattle.sym_calc.specs.declared.troubles.Trouble.{Trouble}
use Rattle.sym_calc.specs.Knowledge.{contrary, sym_state}
use Rattle.sym_calc.specs.Tags.{tag}
use Rattle.sym_calc.specs.Told.{learned, tells}
use Rattle.sym_calc.specs.Troubles.{trouble_of, trouble_at}

-- the facts of its path, and behind them those of its own floors
abbrev pub facts_of : Sym → List Form
facts_of s = s.path.now.facts ++ s.rows

-- the floors of its path, and behind them its own
abbrev pub named_of : Sym → List Floor
named_of s = s.path.now.floors ++ s.floors

-- how many variables there are: those of the axes and of the floors
abbrev pub variables_of : Sym → ℕ
variables_of s = length (named_of s) + axis_count s.path.now.origin.form

-- the number of its path and its tape
abbrev pub tag_of : Sym → ℕ
tag_of s = tag s.path.now.origin.form s.path.now.facts s.path.now.floors s.tape.now

abbrev pub state_of : Sym → State
state_of s = sym_state s.path.now.origin (tag_of s) (facts_of s) (named_of s) s.coeffs s.opens

-- nothing of its path, its tape, its own facts and floors, what it was told and its trouble is another
pub record KeepsRest (s t : Sym) : Type 0 where
  pub path : t.path.now ≡ s.path.now
  pub rows : t.rows ≡ s.rows
  pub floors : t.floors ≡ s.floors
  pub told : t.told ≡ s.told
  pub tape : t.tape.now ≡ s.tape.now
  pub taken : t.taken ≡ s.taken
  pub trouble : t.trouble ≡ s.trouble

-- why the next answer leaves a row open, if it does
abbrev pub next_trouble : Sym → Form → Option Trouble
next_trouble s row = trouble_at (facts_of s) (variables_of s) s.tape.now s.taken row

-- the same of this answer
abbrev pub trouble_by_answer : Sym → Form → Answer → Option Trouble
trouble_by_answer s row answer = trouble_of (facts_of s) (variables_of s) s.taken row answer

-- whether the row that is at least 0 where an answer on a row is wrong has its numbers in `i128`
abbrev pub contrary_fits : Form → Option Answer → Bool
contrary_fits row None = true
contrary_fits row (Some answer) = form_fits (contrary answer.yes row)

-- whether a comparison by a row has its numbers in `i128`: those of the row, and where the row has a variable those of
-- the row that is at least 0 where the next answer is wrong
abbrev pub comparison_fits : Sym → Form → Bool
comparison_fits s row =
    form_fits row && (not (has_variable row) || contrary_fits row (slice_get s.tape.now s.taken))

-- whether a row is to be answered by the tape: it has a variable, and what was told doesn't answer it
abbrev pub is_asked : Sym → Form → Bool
is_asked s row = has_variable row && is_none (tells s.told (record { row = row }))

-- the same as `comparison_fits`, where the tape is not asked what was told
abbrev pub question_fits : Sym → Form → Bool
question_fits s row = form_fits row && (not (is_asked s row) || contrary_fits row (slice_get s.tape.now s.taken))

-- what is told once a row is answered
abbrev pub told_after : Sym → Form → Bool → Told
told_after s row answer = if is_asked s row then learned s.told (record { row = row }) answer else s.told

-- how many answers are taken then
abbrev pub taken_after : Sym → Form → ℕ
taken_after s row = if is_asked s row then s.taken + 1 else s.taken
