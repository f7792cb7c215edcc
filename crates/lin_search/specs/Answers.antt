-- What a search for a contradiction among facts answers.
use Rattle.std.specs.Prelude.{◌≡◌, ℕ, ◌*◌, ◌≤◌, ℤ, pos, false, List, length, Some, slice_get, slice_index_or}
use Rattle.lin_proof.specs.Form.{Form}
use Rattle.lin_proof.specs.Law.{Meets}
use Rattle.lin_proof.specs.Derivations.{Refutes, is_contradiction}
use Rattle.lin_proof.specs.Pairs.{closes}
use Rattle.lin_search.specs.declared.answer.Search.{Search}
use Rattle.lin_search.specs.declared.answer.Search.TheVariants.{Found, Point, GaveUp}

-- the values of the variables by their numbers, 0 past the last
abbrev pub at_point : List ℤ → ℕ → ℤ
at_point values n = slice_index_or values n (pos 0)

-- no fact, and no sum of positive multiples of two facts, has no variable and is below 0
pub record NoneAtHand (facts : List Form) : Type 0 where
  pub alone : (n : ℕ) → is_contradiction (slice_get facts n) ≡ false
  pub together : (i j : ℕ) (f g : Form) → slice_get facts i ≡ Some f → slice_get facts j ≡ Some g → (a b : ℤ)
      → closes f g a b ≡ false

-- a derivation refutes the facts; a point has a value for each variable and meets them all; a
-- search that looked at each pair of facts gives up only where no contradiction is at hand
abbrev pub IsRight : List Form → ℕ → ℕ → Search → Type 0
IsRight facts variables limit (Found d) = Refutes facts variables d
IsRight facts variables limit (Point values) = (length values ≡ variables) × Meets (at_point values) facts
IsRight facts variables limit GaveUp = length facts * length facts ≤ limit → NoneAtHand facts
