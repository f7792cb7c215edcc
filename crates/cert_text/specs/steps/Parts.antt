-- Reading rows and derivations, one reader for each part of the grammar.
use Rattle.std.specs.Prelude.{ℕ, zero, suc, ◌+◌, ◌-◌, ◌^◌, ◌==◌, nat_lt, ℤ, pos, Bool, true, false, cond, ◌&&◌, ◌||◌, List, [], ◌∷◌, ◌++◌, length, codes, Option, Some, None, if◌then◌else◌}
use Rattle.lin_proof.specs.Form.{Form, Terms}
use Rattle.lin_proof.specs.declared.derivation.Step.{Step}
use Rattle.lin_proof.specs.declared.derivation.Step.TheVariants.{Fact, Sum, Cut}
use Rattle.lin_proof.specs.declared.derivation.Derivation.{Derivation}
use Rattle.lin_proof.specs.declared.derivation.Ending.{Ending}
use Rattle.lin_proof.specs.declared.derivation.Ending.TheViews.{roll-Derivation, roll-Branch}
use Rattle.lin_proof.specs.declared.derivation.Ending.TheVariants.{Closed, Cases}
use Rattle.cert_text.specs.declared.turn.Turn.{Turn}
use Rattle.cert_text.specs.declared.turn.Turn.TheVariants.{More, Last}
use Rattle.cert_text.specs.steps.Read.{after_word, begins}
use Rattle.cert_text.specs.steps.Numbers.{natural, signed}
use Rattle.cert_text.specs.steps.Readers.{Reader, give, seq, either, loop}

-- the greatest number of a variable, fact or row
abbrev pub most : ℕ
most = 2 ^ 32 - 1

-- the greatest multiplier or divisor
abbrev pub most_times : ℕ
most_times = 2 ^ 127 - 1

-- ---- rows

-- the bytes that may stand behind a variable's coefficient
abbrev pub ends_behind : ℕ → Bool → ℕ × ℕ
ends_behind x is_def = if is_def then (32, 32) else if nat_lt x most then (32, 10) else (10, 10)

abbrev pub Term : Type 0
Term = ℕ × ℤ

-- a term is the last one where the line ends behind it
abbrev pub term_turn : ℕ → ℤ × ℕ → Turn Term (Option Term)
term_turn x c = if c.1 == 10 then Last (Some (x, c.0)) else More (x, c.0)

abbrev pub read_one_term : Bool → ℕ → Reader (Turn Term (Option Term))
read_one_term is_def least =
    seq (natural (58, 58) least most) (λ x. seq (signed (ends_behind x.0 is_def) 1) (λ c. give (term_turn x.0 c)))

abbrev pub read_by : Reader (Turn Term (Option Term))
read_by = seq (after_word (codes "by ")) (λ _. give (Last None))

-- the next term, from the variable `least` on, or "by "
abbrev pub read_term : Bool → ℕ → Reader (Turn Term (Option Term))
read_term is_def least text =
    cond (is_def && (begins 98 text || nat_lt most least)) (read_by text) (read_one_term is_def least text)

abbrev pub with_last : Terms → Option Term → Terms
with_last ts None = ts
with_last ts (Some t) = ts ++ t ∷ []

abbrev pub next_variable : Term → ℕ
next_variable t = t.0 + 1

abbrev pub read_terms : Bool → Reader Terms
read_terms is_def text =
    seq (loop next_variable (read_term is_def) (length text) 0) (λ ts. give (with_last ts.0 ts.1)) text

abbrev pub row_of : ℤ → Terms → Form
row_of k ts = record { k = k; terms = ts }

-- a row and what stands behind it: " by " in a def, else the line's end
abbrev pub read_row : Bool → Reader Form
read_row is_def =
    seq (signed (ends_behind 0 is_def) 0)
    (λ k text. cond (k.1 == 10) (give (row_of k.0 []) text) (seq (read_terms is_def) (λ ts. give (row_of k.0 ts)) text))

-- ---- derivations

-- a multiple of a row, and `behind` or the line's end behind it
abbrev pub read_part : ℕ → Reader ((ℤ × ℕ) × ℕ)
read_part behind =
    seq (natural (58, 58) 1 most_times) (λ m. seq (natural (behind, 10) 0 most) (λ n. give ((pos m.0, n.0), n.1)))

abbrev pub part_turn : (ℤ × ℕ) × ℕ → Turn (ℤ × ℕ) (ℤ × ℕ)
part_turn p = if p.1 == 10 then Last p.0 else More p.0

abbrev pub read_one_part : Reader (Turn (ℤ × ℕ) (ℤ × ℕ))
read_one_part = seq (read_part 32) (λ p. give (part_turn p))

-- no item depends on the one before it
abbrev pub alike : {A : Type 0} → A → ℕ
alike a = 0

abbrev pub read_parts : Reader (List (ℤ × ℕ))
read_parts text = seq (loop alike (λ _. read_one_part) (length text) 0) (λ ps. give (ps.0 ++ ps.1 ∷ [])) text

abbrev pub read_fact : Reader (Turn Step Bool)
read_fact = seq (after_word (codes "fact ")) (λ _. seq (natural (10, 10) 0 most) (λ n. give (More (Fact n.0))))

abbrev pub read_sum : Reader (Turn Step Bool)
read_sum = seq (after_word (codes "sum ")) (λ _. seq read_parts (λ ps. give (More (Sum ps))))

abbrev pub read_cut : Reader (Turn Step Bool)
read_cut = seq (after_word (codes "ut ")) (λ _. seq (read_part 10) (λ p. give (More (Cut p.0.0 p.0.1))))

abbrev pub read_case : Reader (Turn Step Bool)
read_case = seq (after_word (codes "ase ")) (λ _. give (Last false))

abbrev pub read_closed : Reader (Turn Step Bool)
read_closed = seq (after_word (codes "losed\n")) (λ _. give (Last true))

-- where no case may come, and where one may
abbrev pub read_behind_c : ℕ → Reader (Turn Step Bool)
read_behind_c zero = either 117 read_cut read_closed
read_behind_c (suc cases) = either 117 read_cut (either 97 read_case read_closed)

abbrev pub read_c : ℕ → Reader (Turn Step Bool)
read_c cases = seq (after_word (codes "c")) (λ _. read_behind_c cases)

-- a step, or how the steps end: whether in "closed"
abbrev pub read_step : ℕ → Reader (Turn Step Bool)
read_step cases = either 102 read_fact (either 115 read_sum (read_c cases))

abbrev pub read_steps : ℕ → Reader (List Step × Bool)
read_steps cases text = loop alike (λ _. read_step cases) (length text) 0 text

abbrev pub derived : List Step → Ending → Derivation
derived steps last = roll-Derivation (record { steps = steps; last = last })

-- what stands behind "case ", where D reads a derivation inside it
abbrev pub read_cases : Reader Derivation → Reader Ending
read_cases D = seq (read_row false)
    (λ row. seq D (λ first. seq D
    (λ second. give (Cases (roll-Branch (record { row = row; first = first; second = second }))))))

abbrev pub read_ending : Reader Derivation → List Step × Bool → Reader Derivation
read_ending D p text =
    cond p.1 (give (derived p.0 Closed) text) (seq (read_cases D) (λ last. give (derived p.0 last)) text)

-- a derivation in which at most so many cases enclose each other
unfoldable pub read_derivation : ℕ → Reader Derivation
read_derivation zero = seq (read_steps 0) (λ p. give (derived p.0 Closed))
read_derivation (suc cases) = seq (read_steps (suc cases)) (read_ending (read_derivation cases))
