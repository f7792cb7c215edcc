-- Inline content in parts, in one pass: at each thing the place of the
-- break behind it is found from what lies before the next thing.
use Rattle.std.specs.Prelude.{ℕ, zero, suc, ◌==◌, Bool, true, false, not, cond, if◌then◌else◌, List, [], ◌∷◌, ◌++◌, filter, Option, Some, None, find}
use Rattle.std.specs.List.{onto_first}
use Rattle.layout_semantics.specs.InlineContent.{Item, start, finish, forced}
use Rattle.layout_semantics.specs.Segments.{is_thing, is_end, until_thing, Parting}

-- ---- where the break stands

-- how many ends a list begins with
abbrev pub leading_ends : List Item → ℕ
leading_ends [] = 0
leading_ends (i ∷ items) = cond (is_end i) (suc (leading_ends items)) 0

-- starts of inline boxes that have not ended yet, each with the place behind the last end before it
abbrev pub Starts : Type 0
Starts = List (ℕ × ℕ)

-- before the first of them, at the place that it has; where there is none, behind the last end
abbrev pub first_or : Starts → ℕ → ℕ
first_or [] last = last
first_or (s ∷ starts) last = s.1

abbrev pub without : ℕ → Starts → Starts
without at starts = filter (λ (s : ℕ × ℕ). not (s.0 == at)) starts

-- a run between two things item by item, n items being behind
abbrev pub break_from : ℕ → ℕ → Starts → List Item → ℕ
break_from n last starts [] = first_or starts last
break_from n last starts (start at ∷ run) = break_from (suc n) last (starts ++ (at, last) ∷ []) run
break_from n last starts (finish at ∷ run) = break_from (suc n) (suc n) (without at starts) run
break_from n last starts (i ∷ run) = break_from (suc n) last starts run

abbrev pub break_in : List Item → ℕ
break_in run = break_from 0 0 [] run

-- behind how many items after a thing the content is parted, by the thing
-- before it, the next one and the run up to that
abbrev pub behind : Parting → Option Item → Item → Option Item → List Item → Option ℕ
behind part before thing None run = None
behind part before thing (Some next) run = cond (part before thing next) (Some (break_in run)) None

abbrev pub place : Parting → Option Item → Item → List Item → Option ℕ
place part before (forced at) after = Some (leading_ends after)
place part before thing after = behind part before thing (find is_thing after) (until_thing after)

-- ---- the pass

abbrev pub one_less : Option ℕ → Option ℕ
one_less None = None
one_less (Some zero) = None
one_less (Some (suc n)) = Some n

-- how many items there are up to the break, after one more; `last` is the last thing before that
abbrev pub left_after : Parting → Option Item → Option ℕ → Item → List Item → Option ℕ
left_after part last left i after = cond (is_thing i) (place part last i after) (one_less left)

abbrev pub last_after : Option Item → Item → Option Item
last_after last i = cond (is_thing i) (Some i) last

abbrev pub is_here : Option ℕ → Bool
is_here None = false
is_here (Some zero) = true
is_here (Some (suc n)) = false

-- an item before parts, as a part of its own where it ends one
abbrev pub parted : Item → Bool → List (List Item) → List (List Item)
parted i b parts = if b then (i ∷ []) ∷ parts else onto_first i parts

abbrev pub cut : Parting → Option Item → Option ℕ → List Item → List (List Item)
cut part last left [] = []
cut part last left (i ∷ items) =
    parted i (is_here (left_after part last left i items))
    (cut part (last_after last i) (left_after part last left i items) items)
