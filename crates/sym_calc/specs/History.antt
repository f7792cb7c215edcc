-- What a symbolic calc did: which floors it named, and which answers it took.
use Rattle.std.specs.Prelude.{ℕ, zero, suc, ◌+◌, ◌==◌, nat_le, pos, Bool, true, false, not, ◌&&◌, ◌||◌, List, [], ◌∷◌, ◌++◌, length, take, Option, Some, None, is_none, slice_get}
use Rattle.std.specs.Option.{option_map_or}
use Rattle.std.specs.List.{list_any}
use Rattle.std.specs.Int.Signed.{lt_z}
use Rattle.lin_proof.specs.Form.{Form}
use Rattle.lin_proof.specs.declared.derivation.Answer.{Answer}
use Rattle.lin_proof.specs.Derivations.{are_declared, first_fault}
use Rattle.cert_semantics.specs.Axes.{axis_count}
use Rattle.cert_semantics.specs.Paths.{def}
use Rattle.cert_semantics.specs.Facts.{step_facts}
use Rattle.cert_semantics.specs.Shapes.{has_variable, has_remainders, same_row}
use Rattle.sym_calc.specs.declared.floors.Floor.{Floor}
use Rattle.sym_calc.specs.declared.troubles.Trouble.{Trouble}
use Rattle.sym_calc.specs.declared.troubles.Trouble.TheVariants.{Line, Differs, Short}
use Rattle.sym_calc.specs.Floors.{same_floor}
use Rattle.sym_calc.specs.Knowledge.{contrary}

-- ---- floors of its own

-- the facts of floors that are named one after another, from the variable x on
abbrev pub facts_from : ℕ → List Floor → List Form
facts_from x [] = []
facts_from x (f ∷ fs) = step_facts x (def f.row f.by) ++ facts_from (x + 1) fs

-- whether a floor is new among those before it, and well shaped as that of a def behind them
abbrev pub is_fit : ℕ → List Floor → Floor → Bool
is_fit form before f =
    are_declared (length before + axis_count form) f.row.terms && has_variable f.row && lt_z (pos 1) f.by
    && has_remainders f.by f.row && not (list_any (same_floor f) before)

-- whether each is, behind those before it
unfoldable pub are_fit : ℕ → List Floor → List Floor → Bool
are_fit form before [] = true
are_fit form before (f ∷ fs) = is_fit form before f && are_fit form (before ++ f ∷ []) fs

-- ---- answers: the facts of a path with its floors, and behind them floors of its own

-- the first wrong line of an answer's derivation from all facts, and behind them the row that is at least 0 where the
-- answer is wrong
abbrev pub fault_below : ℕ → List Form → List Floor → List Floor → Answer → Option ℕ
fault_below form facts along own answer =
    first_fault (facts ++ facts_from (length along + axis_count form) own ++ contrary answer.yes answer.row ∷ [])
    (length (along ++ own) + axis_count form) answer.why

-- whether a test is met by a number that is at most n
unfoldable pub any_up_to : ℕ → (ℕ → Bool) → Bool
any_up_to zero test = test 0
any_up_to (suc n) test = test (suc n) || any_up_to n test

-- whether each derivation is right below some of the own floors: not fewer than the n first, and not fewer than those
-- before it are
unfoldable pub are_right : ℕ → List Form → List Floor → List Floor → ℕ → List Answer → Bool
are_right form facts along own n [] = true
are_right form facts along own n (answer ∷ answers) =
    any_up_to (length own)
    (λ m. nat_le n m && (is_none (fault_below form facts along (take m own) answer)
    && are_right form facts along own m answers))

-- whether this line is the first wrong one below some of the own floors
unfoldable pub is_wrong : ℕ → List Form → List Floor → List Floor → ℕ → Answer → Bool
is_wrong form facts along own line answer =
    any_up_to (length own)
    (λ m. option_map_or (λ wrong. wrong == line) (fault_below form facts along (take m own) answer) false)

-- whether an answer is to this row, and not to ours
abbrev pub is_to_another : Form → Form → Answer → Bool
is_to_another ours theirs answer = same_row answer.row theirs && not (same_row ours theirs)

-- whether all answers of a tape that were taken are right, up to the first trouble; and whether that is a trouble
unfoldable pub is_accounted : ℕ → List Form → List Floor → List Floor → List Answer → ℕ → Option Trouble → Bool
is_accounted form facts along own tape taken None = are_right form facts along own 0 (take taken tape)
is_accounted form facts along own tape taken (Some (Line number line)) =
    are_right form facts along own 0 (take number tape)
    && option_map_or (is_wrong form facts along own line) (slice_get tape number) false
is_accounted form facts along own tape taken (Some (Differs number ours theirs)) =
    are_right form facts along own 0 (take number tape)
    && option_map_or (is_to_another ours theirs) (slice_get tape number) false
is_accounted form facts along own tape taken (Some Short) = are_right form facts along own 0 tape
