-- Sums of positive multiples of two forms, and which of them are contradictions.
use Rattle.std.specs.Prelude.{◌≡◌, true, ℕ, ℤ, pos, ◌<ℤ◌, Bool, ◌&&◌, [], ◌∷◌, Option}
use Rattle.lin_proof.specs.Number.{in_i128}
use Rattle.lin_proof.specs.Form.{Form, Terms}
use Rattle.lin_proof.specs.Derivations.{is_contradiction, sum_from, zero_form}
use Rattle.lin_proof.specs.declared.multiples.Multiples.{Multiples}

-- the sum of positive multiples of two forms, one added after the other, if every number on the way is in `i128`
abbrev pub sum_of_two : Form → ℤ → Form → ℤ → Option Form
sum_of_two f a g b = sum_from (f ∷ g ∷ []) zero_form ((a, 0) ∷ (b, 1) ∷ [])

-- whether such a sum, its multiples in `i128` too, has no variable and is below 0
abbrev pub closes : Form → Form → ℤ → ℤ → Bool
closes f g a b = in_i128 a && in_i128 b && is_contradiction (sum_of_two f a g b)

-- positive multiples that close f and g if any do
pub record IsBest (f g : Form) (m : Multiples) : Type 0 where
  pub first : pos 0 <ℤ m.first
  pub second : pos 0 <ℤ m.second
  pub best : (a b : ℤ) → closes f g a b ≡ true → closes f g m.first m.second ≡ true

-- the terms begin with t
abbrev pub IsFirst : Terms → ℕ × ℤ → Type 0
IsFirst terms t = (rest : Terms) × (terms ≡ t ∷ rest)
