-- What a call of a symbolic calc answers where the exact row is known.
use Rattle.std.specs.Prelude.{◌≡◌, ℕ, Bool, true, false, Result, Ok, Err, ⊤}
use Rattle.viz_base.specs.Numbers.{Rose}
use Rattle.viz_calc.specs.declared.calc.Halt.{Halt}
use Rattle.viz_calc.specs.declared.calc.Halt.TheVariants.{Mem, Coeff, Open}
use Rattle.lin_proof.specs.Form.{Form, form_fits}

-- Ok: the exact row, each of its numbers being in `i128`; Coeff: a number of it is not; want of memory says nothing
abbrev pub IsGiven : Result Form Halt → Form → Type 0
IsGiven (Ok row) exact = (row ≡ exact) × (form_fits exact ≡ true)
IsGiven (Err Mem) exact = ⊤
IsGiven (Err Coeff) exact = form_fits exact ≡ false
IsGiven (Err Open) exact = ⊥

-- Whether all numbers that a call computes are in `i128`. Coeff: one is not; want of memory says nothing; any other
-- answer: each is
abbrev pub IsWithin : {A : Type 0} → Result A Halt → Bool → Type 0
IsWithin (Ok answer) fits = fits ≡ true
IsWithin (Err Mem) fits = ⊤
IsWithin (Err Coeff) fits = fits ≡ false
IsWithin (Err Open) fits = fits ≡ true

-- the same, where the answer is this one
abbrev pub IsGivenWithin : {A : Type 0} → Result A Halt → A → Bool → Type 0
IsGivenWithin (Ok answer) exact fits = (answer ≡ exact) × (fits ≡ true)
IsGivenWithin (Err Mem) exact fits = ⊤
IsGivenWithin (Err Coeff) exact fits = fits ≡ false
IsGivenWithin (Err Open) exact fits = ⊥

-- the count of numbers outside `i128` rises with `Coeff`, and with no other answer
abbrev pub IsTallied : {A : Type 0} → Result A Halt → ℕ → ℕ → Type 0
IsTallied (Ok answer) old new = new ≡ old
IsTallied (Err Mem) old new = new ≡ old
IsTallied (Err Coeff) old new = Rose old new
IsTallied (Err Open) old new = new ≡ old
