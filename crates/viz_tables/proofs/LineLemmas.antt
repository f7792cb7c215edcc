-- Lines one after another.
use native.Mathlib.Numerals.{unary_clauses}
use Rattle.std.proofs.Common.{◌≡◌, ◌≢◌, ◌∙◌, ℕ, suc, ◌+◌, ◌-◌, ◌<◌, ◌≤◌, Bool, List, [], ◌∷◌, ◌++◌, length, Some, refl, sym, ap, subst, arith}
use Rattle.std.specs.Prelude.{slice_get}
use Rattle.viz_base.specs.declared.jobs.Job.{Job}
use Rattle.viz_base.specs.declared.worlds.Rect.{Rect}
use Rattle.viz_base.specs.declared.worlds.World.{World}
use Rattle.viz_replies.specs.Parts.{are_true_at}
use Rattle.viz_tables.specs.declared.words.Word.{Word}
use Rattle.viz_tables.specs.declared.words.Line.{Line}
use Rattle.viz_tables.specs.Joins.{EndsOther, IsSaid}
use Rattle.viz_tables.specs.Words.{AreLines, AreLinesOf, AreRight, IsLine, IsRight}
use Rattle.viz_tables.proofs.Widths.{right_at}

lines_more : (Is : Word → ℕ → Type 0) (from to : ℕ) (lines : List Line) (line : Line) → AreLines Is from to lines → EndsOther lines line.word → IsLine Is line → line.wl ≡ to
    → AreLines Is from (suc line.wh) (lines ++ line ∷ [])
lines_more Is from to [] line h other is e = (e ∙ sym h, is, tt, refl)
lines_more Is from to (one ∷ []) line h other is e = (h.0, h.1, other, (e ∙ sym h.3, is, tt, refl))
lines_more Is from to (one ∷ next ∷ lines) line h other is e = (h.0, h.1, h.2, lines_more Is (suc one.wh) to (next ∷ lines) line h.3 other is e)

ends_more : (lines : List Line) (line : Line) (word : Word) → line.word ≢ word → EndsOther (lines ++ line ∷ []) word
ends_more [] line word other = other
ends_more (one ∷ []) line word other = other
ends_more (one ∷ next ∷ lines) line word other = ends_more (next ∷ lines) line word other

-- a run of the same word is a line
module _ (words : List Word) (wl from behind : ℕ) (word : Word) (less : from < behind) (here : slice_get words from ≡ Some word)
    (same : (at : ℕ) → from ≤ at → at < behind → slice_get words at ≡ slice_get words from)
  where
    abbrev run : Line
    run = record { wl = wl + from; wh = wl + behind - 1; word = word }

    run_is : IsLine (IsSaid words wl) run
    run_is = record {
      widths = omega (arith, less);
      right = λ w least most at is. same at (omega (arith, least, is)) (omega (arith, most, is, less)) ∙ here;
    }

    pub run_more : (lines : List Line) → AreLines (IsSaid words wl) wl (wl + from) lines → EndsOther lines word → AreLines (IsSaid words wl) wl (wl + behind) (lines ++ run ∷ [])
    run_more lines h other =
        subst (λ to. AreLines (IsSaid words wl) wl to (lines ++ run ∷ [])) (omega (arith, less)) (lines_more (IsSaid words wl) wl (wl + from) lines run h other run_is refl)

    pub run_ends : (lines : List Line) → (behind < length words → slice_get words behind ≢ slice_get words from) → behind < length words → (next : Word) → slice_get words behind ≡ Some next
        → EndsOther (lines ++ run ∷ []) next
    run_ends lines other inside next is = ends_more lines run next (λ e. other inside (is ∙ (ap Some (sym e) ∙ sym here)))

-- ---- what lines say

pub lines_map : {P Q : Word → ℕ → Type 0} (least from to : ℕ) (lines : List Line) → ((word : Word) (w : ℕ) → least ≤ w → P word w → Q word w) → least ≤ from → AreLines P from to lines → AreLines Q from to lines
lines_map least from to [] f le h = h
lines_map least from to (line ∷ lines) f le h =
    let starts = h.0 in
    let widths = h.1.widths in (
      h.0,
      record { widths = h.1.widths; right = λ w low high. f line.word w (omega (arith, starts, le, low)) (h.1.right w low high) },
      h.2,
      lines_map least (suc line.wh) to lines f (omega (arith, starts, le, widths)) h.3,
    )

-- lines of words that are right
pub said_right : (range : Rect) (truth : World → Bool) (turns : ℕ) (words : List Word) (lines : List Line) → range.wl + length words ≡ range.wh + 1 → AreRight range truth turns range.wl words
    → AreLines (IsSaid words range.wl) range.wl (range.wl + length words) lines → AreLinesOf range truth turns lines
said_right range truth turns words lines count right h =
    subst (λ to. AreLines (IsRight range truth turns) range.wl to lines) (omega (arith, count))
    (lines_map range.wl range.wl (range.wl + length words) lines
    (λ word w least said. (
    let at = w - range.wl in
    let here : w ≡ range.wl + at = omega (arith, least) in
    subst (λ n. IsRight range truth turns word n) (sym here) (right_at range truth turns range.wl words at word right (said at here))
    ))
    (omega arith) h)

-- lines of what is said of jobs
pub lines_by : (range : Rect) (jobs given : List Job) (turns : ℕ) (words slice : List Word) (lines : List Line) → given ≡ jobs → slice ≡ words → range.wl + length words ≡ range.wh + 1
    → AreRight range (are_true_at given) turns range.wl words → AreLines (IsSaid slice range.wl) range.wl (range.wl + length slice) lines → AreLinesOf range (are_true_at jobs) turns lines
lines_by range jobs given turns words slice lines same as_slice count right h =
    said_right range (are_true_at jobs) turns words lines count (subst (λ js. AreRight range (are_true_at js) turns range.wl words) same right)
    (subst (λ ws. AreLines (IsSaid ws range.wl) range.wl (range.wl + length ws) lines) as_slice h)
