-- Numbers up to the most, and sums of them: what is past stays past.
use Rattle.std.proofs.Common.{◌≡◌, ℕ, zero, suc, ◌+◌, ◌*◌, ◌<◌, ◌≤◌, nat_le, Bool, true, false, refl, ◌∙◌, ap, arith, if◌then◌else◌, inl, inr, ◌⊎◌, leb-true, leb-false, le-leb}
use Rattle.page_boxes.specs.steps.Extents.{capped, most}

pub capped_within : (n : ℕ) → n ≤ most → capped n ≡ n
capped_within n l = ap (λ b. if b then n else most + 1) (le-leb n most l)

pub not_within : (n : ℕ) → most < n → nat_le n most ≡ false
not_within n l = by_test (nat_le n most) refl
  where
    by_test : (t : Bool) → nat_le n most ≡ t → nat_le n most ≡ false
    by_test false e = e
    by_test true e = absurd (let low = leb-true n most e in omega (arith, low, l))

pub capped_past : (n : ℕ) → most < n → capped n ≡ most + 1
capped_past n l = ap (λ b. if b then n else most + 1) (not_within n l)

pub past_or_within : (n : ℕ) → (n ≤ most) ⊎ (most < n)
past_or_within n = by_test (nat_le n most) refl
  where
    by_test : (t : Bool) → nat_le n most ≡ t → (n ≤ most) ⊎ (most < n)
    by_test true e = inl (leb-true n most e)
    by_test false e = inr (leb-false n most e)

-- two numbers that are the same, or are both past the most
pub data Alike (a b : ℕ) : Type 0 where
  same : a ≡ b → Alike a b
  past : most < a → most < b → Alike a b

pub alike_capped : (n : ℕ) → Alike (capped n) n
alike_capped n = by_place (past_or_within n)
  where
    by_place : (n ≤ most) ⊎ (most < n) → Alike (capped n) n
    by_place (inl l) = Alike.same (capped_within n l)
    by_place (inr l) = Alike.past (let e = capped_past n l in omega (arith, e)) l

pub alike_trans : (a b c : ℕ) → Alike a b → Alike b c → Alike a c
alike_trans a b c (Alike.same e) (Alike.same f) = Alike.same (e ∙ f)
alike_trans a b c (Alike.same e) (Alike.past l m) = Alike.past (omega (arith, e, l)) m
alike_trans a b c (Alike.past l m) (Alike.same f) = Alike.past l (omega (arith, f, m))
alike_trans a b c (Alike.past l m) (Alike.past k n) = Alike.past l n

pub alike_add : (a b c d : ℕ) → Alike a b → Alike c d → Alike (a + c) (b + d)
alike_add a b c d (Alike.same e) (Alike.same f) = Alike.same (omega (arith, e, f))
alike_add a b c d (Alike.same e) (Alike.past l m) = Alike.past (omega (arith, l)) (omega (arith, m))
alike_add a b c d (Alike.past l m) f = Alike.past (omega (arith, l)) (omega (arith, m))

pub alike_times : (r a b : ℕ) → 1 ≤ r → Alike a b → Alike (r * a) (r * b)
alike_times r a b l (Alike.same e) = Alike.same (ap (λ k. r * k) e)
alike_times r a b l (Alike.past m n) = Alike.past (times_past r a l m) (times_past r b l n)
  where
    times_past : (r a : ℕ) → 1 ≤ r → most < a → most < r * a
    times_past zero a l m = absurd (omega (arith, l))
    times_past (suc r) a l m = let more : suc r * a ≡ r * a + a = omega arith in omega (arith, more, m)
