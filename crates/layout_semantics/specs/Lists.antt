-- Words on lists.
use Rattle.std.specs.Prelude.{ℕ, Bool, true, false, List, [], ◌∷◌, fold, replicate, slice_set, Option, Some, None}

abbrev pub one_if : {A : Type 0} → Bool → A → List A
one_if true a = a ∷ []
one_if false a = []

-- the places of a table for some entries: none where there are no entries
abbrev pub room_for : {A : Type 0} → ℕ → List A → ℕ
room_for n [] = 0
room_for n (entry ∷ entries) = n

-- a table with a place for each number below n, that holds what stands beside each of these numbers there
abbrev pub table_of : {A : Type 0} → ℕ → List (ℕ × A) → List (Option A)
table_of n entries =
    fold (λ table entry. slice_set table entry.0 (Some entry.1)) (replicate (room_for n entries) None) entries
