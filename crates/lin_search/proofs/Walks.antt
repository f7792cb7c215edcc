-- Walks over a list of forms by their places.
use Rattle.std.proofs.Common.{◌≡◌, ℕ, ◌+◌, ◌<◌, ◌≤◌, List, Some, length, get_or, refl, sym, ◌∙◌, subst, inl, inr, arith}
use Rattle.std.specs.Prelude.{slice_get}
use Rattle.std.proofs.lemmas.Bool.{cases_lt}
use Rattle.std.proofs.lemmas.Option.{slice_get_within, slice_get_read, same_Some}
use Rattle.lin_proof.specs.Form.{Form}

-- what holds of the forms before a place, and of the one there, holds of those before the next place
pub each_more : (P : Form → Type 0) (xs : List Form) (i : ℕ) (x : Form) → i < length xs → x ≡ get_or xs i x → ((k : ℕ) (g : Form) → k < i → slice_get xs k ≡ Some g → P g) → P x → (k : ℕ) (g : Form) → k < i + 1 → slice_get xs k ≡ Some g → P g
each_more P xs i x lt is before here k g near at =
    elim (cases_lt k i) [
      | inl less ↦ before k g less at
      | inr more ↦
          let same : k ≡ i = omega (arith, near, more) in
          let read = slice_get_read xs (length xs) i x refl lt is in
          subst P (same_Some x g (sym read ∙ subst (λ j. slice_get xs j ≡ Some g) same at)) here
    ]

pub each_of_all : (P : Form → Type 0) (xs : List Form) (i : ℕ) → length xs ≤ i → ((k : ℕ) (g : Form) → k < i → slice_get xs k ≡ Some g → P g) → (k : ℕ) (g : Form) → slice_get xs k ≡ Some g → P g
each_of_all P xs i le before k g at = before k g (omega (arith, slice_get_within xs k g at)) at
