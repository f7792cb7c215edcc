-- A run between two things in one pass: the place behind its last end up to the first start that stays open.
use Rattle.std.proofs.Common.{◌≡◌, ℕ, suc, ◌+◌, ◌==◌, Bool, true, false, not, cond, ◌||◌, List, [], ◌∷◌, ◌++◌, filter, refl, sym, ◌∙◌, ap, append-nil, arith}
use Rattle.std.specs.List.{list_any}
use Rattle.layout_semantics.specs.InlineContent.{Item, start, finish, word, space, atomic, forced, float}
use Rattle.layout_semantics.specs.Segments.{is_end, ends, closed_run}
use Rattle.lay_line.specs.steps.Cutting.{Starts, first_or, without, break_from, break_in}
use Rattle.lay_line.proofs.Lasts.{none-where, later, behind-first}
use Rattle.lay_line.proofs.Ends.{last_end}

-- the starts that stay open up to the end of a run
abbrev left : Starts → List Item → Starts
left starts run = filter (λ (s : ℕ × ℕ). not (list_any (ends s.0) run)) starts

left-push : (starts : Starts) (at last : ℕ) (run : List Item) → left (starts ++ (at, last) ∷ []) run ≡ left starts run ++ cond (not (list_any (ends at) run)) ((at, last) ∷ []) []
left-push [] at last run = refl
left-push (s ∷ starts) at last run = by (not (list_any (ends s.0) run)) (left-push starts at last run)
  where
    by : (b : Bool) → left (starts ++ (at, last) ∷ []) run ≡ left starts run ++ cond (not (list_any (ends at) run)) ((at, last) ∷ []) []
        → cond b (s ∷ left (starts ++ (at, last) ∷ []) run) (left (starts ++ (at, last) ∷ []) run) ≡ cond b (s ∷ left starts run) (left starts run) ++ cond (not (list_any (ends at) run)) ((at, last) ∷ []) []
    by true e = ap (λ l. s ∷ l) e
    by false e = e

left-ended : (starts : Starts) (at : ℕ) (run : List Item) → left (without at starts) run ≡ left starts (finish at ∷ run)
left-ended [] at run = refl
left-ended (s ∷ starts) at run = by (s.0 == at) (left-ended starts at run)
  where
    kept : Bool → Starts → Starts
    kept b rest = cond b (s ∷ rest) rest

    by : (b : Bool) → left (without at starts) run ≡ left starts (finish at ∷ run) → left (kept (not b) (without at starts)) run ≡ kept (not (b || list_any (ends s.0) run)) (left starts (finish at ∷ run))
    by true e = e
    by false e = ap (kept (not (list_any (ends s.0) run))) e

first-pushed : (starts : Starts) (at last other : ℕ) → first_or (starts ++ (at, last) ∷ []) other ≡ first_or starts last
first-pushed [] at last other = refl
first-pushed (s ∷ starts) at last other = refl

-- the place behind the last end of the closed part of a run, or else where it was before
abbrev behind_last : ℕ → ℕ → List Item → ℕ
behind_last n last run = cond (list_any is_end (closed_run run)) (n + last_end (closed_run run)) last

from-is : (n last : ℕ) (starts : Starts) (run : List Item) → break_from n last starts run ≡ first_or (left starts run) (behind_last n last run)
from-is n last starts [] = ap (λ (l : Starts). first_or l last) (sym (all-left starts))
  where
    all-left : (starts : Starts) → left starts [] ≡ starts
    all-left [] = refl
    all-left (s ∷ starts) = ap (λ l. s ∷ l) (all-left starts)
from-is n last starts (start at ∷ run) =
    from-is (suc n) last (starts ++ (at, last) ∷ []) run
    ∙ (ap (λ (l : Starts). first_or l (behind_last (suc n) last run)) (left-push starts at last run) ∙ by (list_any (ends at) run))
  where
    by : (b : Bool) → first_or (left starts run ++ cond (not b) ((at, last) ∷ []) []) (behind_last (suc n) last run)
        ≡ first_or (left starts run) (cond (list_any is_end (cond (not b) [] (start at ∷ closed_run run))) (n + last_end (cond (not b) [] (start at ∷ closed_run run))) last)
    by true = ap (λ (l : Starts). first_or l (behind_last (suc n) last run)) (append-nil (left starts run)) ∙ ap (first_or (left starts run)) (later (list_any is_end (closed_run run)) n (last_end (closed_run run)) last)
    by false = first-pushed (left starts run) at last (behind_last (suc n) last run)
from-is n last starts (finish at ∷ run) =
    from-is (suc n) (suc n) (without at starts) run
    ∙ (ap (λ (l : Starts). first_or l (behind_last (suc n) (suc n) run)) (left-ended starts at run) ∙ ap (first_or (left starts (finish at ∷ run))) (behind-first is_end n (closed_run run)))
from-is n last starts (word at text ∷ run) = from-is (suc n) last starts run ∙ ap (first_or (left starts run)) (later (list_any is_end (closed_run run)) n (last_end (closed_run run)) last)
from-is n last starts (space at ∷ run) = from-is (suc n) last starts run ∙ ap (first_or (left starts run)) (later (list_any is_end (closed_run run)) n (last_end (closed_run run)) last)
from-is n last starts (atomic at ∷ run) = from-is (suc n) last starts run ∙ ap (first_or (left starts run)) (later (list_any is_end (closed_run run)) n (last_end (closed_run run)) last)
from-is n last starts (forced at ∷ run) = from-is (suc n) last starts run ∙ ap (first_or (left starts run)) (later (list_any is_end (closed_run run)) n (last_end (closed_run run)) last)
from-is n last starts (float at ∷ run) = from-is (suc n) last starts run ∙ ap (first_or (left starts run)) (later (list_any is_end (closed_run run)) n (last_end (closed_run run)) last)

pub break-in : (run : List Item) → break_in run ≡ last_end (closed_run run)
break-in run = from-is 0 0 [] run ∙ by (list_any is_end (closed_run run)) refl
  where
    by : (b : Bool) → list_any is_end (closed_run run) ≡ b → cond b (0 + last_end (closed_run run)) 0 ≡ last_end (closed_run run)
    by true e = omega arith
    by false e = sym (none-where is_end (closed_run run) e)
