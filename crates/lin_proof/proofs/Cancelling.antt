-- Whole numbers that cancel each other, by their sizes.
use Rattle.std.proofs.Common.{◌≡◌, ◌≢◌, ℕ, zero, suc, ◌*◌, ◌^◌, ◌<◌, ◌≤◌, ℤ, pos, negsuc, ◌+ℤ◌, ◌*ℤ◌, ◌<ℤ◌, unsigned_abs, FitsSigned, inl, inr, Bool, true, false, refl, sym, ◌∙◌, ap, subst, arith}
use mathlib.Core.Bool.{beq}
use Rattle.std.specs.Int.{w128}
use Rattle.std.specs.Int.Signed.{lt_z}
use Rattle.std.proofs.lemmas.Int.{ints, unsigned_abs-mul, fits_signed_from_abs}
use Rattle.std.proofs.lemmas.Bool.{false≢true, cases_lt}
use Rattle.std.proofs.lemmas.Bool.Decides.{nat_tests}
use Rattle.lin_proof.specs.Number.{in_i128}
use Rattle.lin_proof.specs.Multiples.{Cancels, IsLeast, IsLowest, NoneCancel}
use Rattle.lin_proof.proofs.Divisors.{positive}

opposite_sizes : (x y : ℤ) → x +ℤ y ≡ pos 0 → unsigned_abs x ≡ unsigned_abs y
opposite_sizes (pos m) (pos n) h = omega (arith, ints, h)
opposite_sizes (pos m) (negsuc n) h = omega (arith, ints, h)
opposite_sizes (negsuc m) (pos n) h = omega (arith, ints, h)
opposite_sizes (negsuc m) (negsuc n) h = absurd (omega (arith, ints, h))

of_size : (x : ℤ) → pos 0 <ℤ x → x ≡ pos (unsigned_abs x)
of_size (pos n) h = refl
of_size (negsuc n) h = absurd (omega (arith, ints, h))

sizes : (c e a b : ℤ) → Cancels c e a b → unsigned_abs a * unsigned_abs c ≡ unsigned_abs b * unsigned_abs e
sizes c e a b h = sym (unsigned_abs-mul a c) ∙ opposite_sizes (a *ℤ c) (b *ℤ e) h.sum ∙ unsigned_abs-mul b e

not_below : (n : ℕ) → lt_z (pos n) (pos 0) ≡ false
not_below n = grind (arith, nat_tests)

-- numbers of opposite signs cancel each other where their sizes are equal
cancel_by : (c e : ℤ) (p q : ℕ) → (lt_z c (pos 0) ≡ lt_z e (pos 0) → ⊥) → p * unsigned_abs c ≡ q * unsigned_abs e → pos p *ℤ c +ℤ pos q *ℤ e ≡ pos 0
cancel_by (pos m) (pos n) p q h same = absurd (h (not_below m ∙ sym (not_below n)))
cancel_by (pos m) (negsuc n) p q h same = omega (arith, ints, same)
cancel_by (negsuc m) (pos n) p q h same = omega (arith, ints, same)
cancel_by (negsuc m) (negsuc n) p q h same = absurd (h refl)

pub IsLeast-of : (c e : ℤ) (p q : ℕ) → (lt_z c (pos 0) ≡ lt_z e (pos 0) → ⊥) → IsLowest (unsigned_abs c) (unsigned_abs e) p q → IsLeast c e (record { first = pos p; second = pos q })
IsLeast-of c e p q opposite h = record {
  cancels = record { first = omega (arith, ints, h.first); second = omega (arith, ints, h.second); sum = cancel_by c e p q opposite h.same };
  least = λ a b cancels.
      let t = h.lowest (unsigned_abs a) (unsigned_abs b) (sizes c e a b cancels) in
      let a_is = of_size a cancels.first in
      let b_is = of_size b cancels.second in
      let some : 0 < unsigned_abs a = omega (arith, ints, a_is, cancels.first) in
      let above = positive t.0 p (unsigned_abs a) some t.1 in
      (pos t.0, omega (arith, ints, above), a_is ∙ ap pos t.1, b_is ∙ ap pos t.2);
}

outside : (n : ℕ) → 2 ^ 127 ≤ n → in_i128 (pos n) ≡ true → ⊥
outside n h fits = grind (arith, nat_tests)

-- what is at least 2^127, as its multiples are, is no multiple in `i128`

big_multiple : (t : ℤ) (p : ℕ) (a : ℤ) → pos 0 <ℤ t → a ≡ t *ℤ pos p → 2 ^ 127 ≤ p → in_i128 a ≡ true → ⊥
big_multiple (pos zero) p a some is big fits = absurd (omega (arith, ints, some))
big_multiple (pos (suc t)) p a some is big fits = outside (suc t * p) (grind arith) (subst (λ z. in_i128 z ≡ true) is fits)
big_multiple (negsuc t) p a some is big fits = absurd (omega (arith, ints, some))

pub NoneCancel-first : (c e : ℤ) (p q : ℕ) → (lt_z c (pos 0) ≡ lt_z e (pos 0) → ⊥) → IsLowest (unsigned_abs c) (unsigned_abs e) p q → 2 ^ 127 ≤ p → NoneCancel c e
NoneCancel-first c e p q opposite h big a b a_fits b_fits cancels =
    let t = (IsLeast-of c e p q opposite h).least a b cancels in big_multiple t.0 p a t.1 t.2 big a_fits

pub NoneCancel-second : (c e : ℤ) (p q : ℕ) → (lt_z c (pos 0) ≡ lt_z e (pos 0) → ⊥) → IsLowest (unsigned_abs c) (unsigned_abs e) p q → 2 ^ 127 ≤ q → NoneCancel c e
NoneCancel-second c e p q opposite h big a b a_fits b_fits cancels =
    let t = (IsLeast-of c e p q opposite h).least a b cancels in big_multiple t.0 q b t.1 t.3 big b_fits

-- what the tests of signs and of the range say

pub opposite_signs : (c e : ℤ) → beq (lt_z c (pos 0)) (lt_z e (pos 0)) ≡ false → lt_z c (pos 0) ≡ lt_z e (pos 0) → ⊥
opposite_signs c e h same = differ (lt_z c (pos 0)) (lt_z e (pos 0)) h same
  where
    differ : (p q : Bool) → beq p q ≡ false → p ≡ q → ⊥
    differ true true h same = false≢true (sym h)
    differ false false h same = false≢true (sym h)
    differ true false h same = false≢true (sym same)
    differ false true h same = false≢true same

pub at_least_half : (n : ℕ) → (FitsSigned w128 (pos n) → ⊥) → 2 ^ 127 ≤ n
at_least_half n h =
    elim (cases_lt n (2 ^ 127)) [
      | inl lt ↦ absurd (h (fits_signed_from_abs w128 (pos n) lt))
      | inr le ↦ le
    ]
