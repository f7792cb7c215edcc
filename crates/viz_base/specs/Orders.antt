-- Document order (CSS 2.1, 3.1), and numbers that rise.
use Rattle.std.specs.Prelude.{◌≡◌, ℕ, suc, ◌<◌, ◌≤◌, [], ◌∷◌, nat_lt, Bool, false, List, Option, Some, slice_get, IsTrue}
use Rattle.std.specs.Option.{option_map_or}

-- this parent stands at a place or after it
abbrev pub is_from : ℕ → Option ℕ → Bool
is_from at parent = option_map_or (λ p. nat_lt at (suc p)) parent false

-- Nodes or boxes, told by their parents, stand in document order: those between one and a
-- child of its are all in it, so each of them has its parent there or after it.
abbrev pub IsInOrder : List (Option ℕ) → Type 0
IsInOrder parents = (at between child : ℕ) (parent : Option ℕ) → slice_get parents child ≡ Some (Some at)
    → slice_get parents between ≡ Some parent → at < between → between < child → IsTrue (is_from at parent)

-- each number is above the one before it, and the first is at least `low`
abbrev pub Rises : ℕ → List ℕ → Type 0
Rises low [] = Unit {0}
Rises low (n ∷ ns) = (low ≤ n) × Rises (suc n) ns
