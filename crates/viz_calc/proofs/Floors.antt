use Rattle.std.proofs.Common.{◌≡◌, ℕ, ◌*◌, ◌<◌, ◌≤◌, ◌/◌, ◌^◌, ℤ, pos, negsuc, ◌+ℤ◌, ◌*ℤ◌, ◌-ℤ◌, ◌-◌, arith, suc, unsigned_abs, refl, sym, ◌∙◌, ap}
use Rattle.std.specs.Prelude.{◌≤ℤ◌, ◌<ℤ◌, neg_ℤ}
use lib.IntN.{suc_ℤ, pred_ℤ, ℤ_ind, suc_ℤ-*ℤ, pred_ℤ-*ℤ, +ℤ_one, -ℤ_one, +ℤ_idl, zero-*ℤ, +ℤ_invl, pos-*ℤ-pos}
use Rattle.std.specs.Int.{int_div_euclid, int_rem_euclid}
use Rattle.std.proofs.lemmas.Int.{ints, by_lt_z, unsigned_abs-mul, fits_signed_from_abs}
use Rattle.std.proofs.lemmas.Bool.{cases_lt}
use Rattle.std.specs.Prelude.{FitsSigned, ◌⊎◌}
use Rattle.std.proofs.Common.{inl, inr}
use mir.Syntax.{w128}
use Rattle.std.proofs.Math.Nat.{div-le_of_le-mul, div-lt_iff_lt-mul, mul-le-mul}

-- ---- products of sums

one_more : (a b k : ℤ) → (a +ℤ b) *ℤ k ≡ a *ℤ k +ℤ b *ℤ k → ((a +ℤ pos 1) +ℤ b) *ℤ k ≡ (a +ℤ pos 1) *ℤ k +ℤ b *ℤ k
one_more a b k e =
    let left : (a +ℤ pos 1) +ℤ b ≡ suc_ℤ (a +ℤ b) = omega (arith, ints, +ℤ_one (a +ℤ b)) in
    let right : a +ℤ pos 1 ≡ suc_ℤ a = +ℤ_one a in
    rw (left, right, suc_ℤ-*ℤ (a +ℤ b) k, suc_ℤ-*ℤ a k) (omega (arith, ints, e))

one_less : (a b k : ℤ) → (a +ℤ b) *ℤ k ≡ a *ℤ k +ℤ b *ℤ k → ((a +ℤ negsuc 0) +ℤ b) *ℤ k ≡ (a +ℤ negsuc 0) *ℤ k +ℤ b *ℤ k
one_less a b k e =
    let left : (a +ℤ negsuc 0) +ℤ b ≡ pred_ℤ (a +ℤ b) = omega (arith, ints, -ℤ_one (a +ℤ b)) in
    let right : a +ℤ negsuc 0 ≡ pred_ℤ a = omega (arith, ints, -ℤ_one a) in
    rw (left, right, pred_ℤ-*ℤ (a +ℤ b) k, pred_ℤ-*ℤ a k) (omega (arith, ints, e))

pub +ℤ-*ℤ : (a b k : ℤ) → (a +ℤ b) *ℤ k ≡ a *ℤ k +ℤ b *ℤ k
+ℤ-*ℤ a b k = ℤ_ind (λ z. (z +ℤ b) *ℤ k ≡ z *ℤ k +ℤ b *ℤ k)
    (rw (+ℤ_idl b, zero-*ℤ k, +ℤ_idl (b *ℤ k)) refl)
    (λ n e. one_more (pos n) b k e)
    (λ n e. one_less (neg_ℤ (pos n)) b k e)
    a

one_times : (a : ℤ) → pos 1 *ℤ a ≡ a
one_times (pos n) = omega (arith, ints)
one_times (negsuc n) = omega (arith, ints)

less_one_times : (a : ℤ) → negsuc 0 *ℤ a ≡ neg_ℤ a
less_one_times (pos n) = omega (arith, ints)
less_one_times (negsuc n) = omega (arith, ints)

neg_times : (a k : ℤ) → neg_ℤ a *ℤ k ≡ neg_ℤ (a *ℤ k)
neg_times a k =
    let zero : (neg_ℤ a +ℤ a) *ℤ k ≡ neg_ℤ a *ℤ k +ℤ a *ℤ k = +ℤ-*ℤ (neg_ℤ a) a k in
    let none : (neg_ℤ a +ℤ a) *ℤ k ≡ pos 0 = rw (+ℤ_invl a, zero-*ℤ k) refl in
    omega (arith, ints)

step_above : (p q : ℤ) → p <ℤ q → (m : ℕ) × (q ≡ p +ℤ pos (suc m))
step_above p q l = (unsigned_abs (q -ℤ p) - 1, omega (arith, ints))

apart : (p q r s : ℤ) (d : ℕ) → p *ℤ pos d +ℤ r ≡ q *ℤ pos d +ℤ s → p <ℤ q → r <ℤ pos d → pos 0 ≤ℤ s → ⊥
apart p q r s d e l r1 s0 =
    let k = step_above p q l in
    let more = ap (λ z. z *ℤ pos d) k.1 ∙ +ℤ-*ℤ p (pos (suc k.0)) (pos d) in
    let far : pos (suc k.0) *ℤ pos d ≡ pos (suc k.0 * d) = pos-*ℤ-pos (suc k.0) d in
    omega (arith, ints, more, far)

-- the quotient and the remainder make up the number
pub quotient_is : (x : ℤ) (d : ℕ) → 0 < d → x ≡ int_div_euclid x (pos d) *ℤ pos d +ℤ int_rem_euclid x (pos d)
quotient_is (pos a) d h = omega (arith, ints)
quotient_is (negsuc a) d h = omega (arith, ints)

pub rem_at_least : (x : ℤ) (d : ℕ) → 0 < d → pos 0 ≤ℤ int_rem_euclid x (pos d)
rem_at_least (pos a) d h = omega (arith, ints)
rem_at_least (negsuc a) d h = omega (arith, ints)

pub rem_below : (x : ℤ) (d : ℕ) → 0 < d → int_rem_euclid x (pos d) <ℤ pos d
rem_below (pos a) d h = omega (arith, ints)
rem_below (negsuc a) d h = omega (arith, ints)

-- ---- a product, rounded down

-- n times a number of which the quotient and the remainder are known
product_parts : (n q r k : ℤ) → n *ℤ (q *ℤ k +ℤ r) ≡ (n *ℤ q) *ℤ k +ℤ n *ℤ r
product_parts n q r k = ℤ_ind (λ z. z *ℤ (q *ℤ k +ℤ r) ≡ (z *ℤ q) *ℤ k +ℤ z *ℤ r)
    (rw (zero-*ℤ (q *ℤ k +ℤ r), zero-*ℤ q, zero-*ℤ k, zero-*ℤ r) refl)
    (λ m e.
    let whole : (pos m +ℤ pos 1) *ℤ (q *ℤ k +ℤ r) ≡ pos m *ℤ (q *ℤ k +ℤ r) +ℤ (q *ℤ k +ℤ r) = +ℤ-*ℤ (pos m) (pos 1) (q *ℤ k +ℤ r) ∙ ap (λ z. pos m *ℤ (q *ℤ k +ℤ r) +ℤ z) (one_times (q *ℤ k +ℤ r)) in
    let quotient : (pos m +ℤ pos 1) *ℤ q ≡ pos m *ℤ q +ℤ q = +ℤ-*ℤ (pos m) (pos 1) q ∙ ap (λ z. pos m *ℤ q +ℤ z) (one_times q) in
    let rest : (pos m +ℤ pos 1) *ℤ r ≡ pos m *ℤ r +ℤ r = +ℤ-*ℤ (pos m) (pos 1) r ∙ ap (λ z. pos m *ℤ r +ℤ z) (one_times r) in
    let split = ap (λ z. z *ℤ k) quotient ∙ +ℤ-*ℤ (pos m *ℤ q) q k in
    omega (arith, ints, e, whole, rest, split))
    (λ m e.
    let whole : (neg_ℤ (pos m) +ℤ negsuc 0) *ℤ (q *ℤ k +ℤ r) ≡ neg_ℤ (pos m) *ℤ (q *ℤ k +ℤ r) +ℤ neg_ℤ (q *ℤ k +ℤ r) = +ℤ-*ℤ (neg_ℤ (pos m)) (negsuc 0) (q *ℤ k +ℤ r) ∙ ap (λ z. neg_ℤ (pos m) *ℤ (q *ℤ k +ℤ r) +ℤ z) (less_one_times (q *ℤ k +ℤ r)) in
    let quotient : (neg_ℤ (pos m) +ℤ negsuc 0) *ℤ q ≡ neg_ℤ (pos m) *ℤ q +ℤ neg_ℤ q = +ℤ-*ℤ (neg_ℤ (pos m)) (negsuc 0) q ∙ ap (λ z. neg_ℤ (pos m) *ℤ q +ℤ z) (less_one_times q) in
    let rest : (neg_ℤ (pos m) +ℤ negsuc 0) *ℤ r ≡ neg_ℤ (pos m) *ℤ r +ℤ neg_ℤ r = +ℤ-*ℤ (neg_ℤ (pos m)) (negsuc 0) r ∙ ap (λ z. neg_ℤ (pos m) *ℤ r +ℤ z) (less_one_times r) in
    let split = ap (λ z. z *ℤ k) quotient ∙ +ℤ-*ℤ (neg_ℤ (pos m) *ℤ q) (neg_ℤ q) k in
    let negated = neg_times q k in
    omega (arith, ints, e, whole, rest, split, negated))
    n

-- what is a sum of this form has this quotient
same_quotient : (p q r s : ℤ) (d : ℕ) → p *ℤ pos d +ℤ r ≡ q *ℤ pos d +ℤ s → pos 0 ≤ℤ r → r <ℤ pos d → pos 0 ≤ℤ s → s <ℤ pos d → p ≡ q
same_quotient p q r s d e r0 r1 s0 s1 =
    by_lt_z p q (λ l. absurd (apart p q r s d e l r1 s0)) (λ l. by_lt_z q p (λ m. absurd (apart q p s r d (sym e) m s1 r0)) (λ m. omega (arith, ints)))

pub div-product : (n a : ℤ) (d : ℕ) → 0 < d → int_div_euclid (n *ℤ a) (pos d) ≡ n *ℤ int_div_euclid a (pos d) +ℤ int_div_euclid (n *ℤ int_rem_euclid a (pos d)) (pos d)
div-product n a d h =
    let q = int_div_euclid a (pos d) in
    let r = int_rem_euclid a (pos d) in
    let y = n *ℤ r in
    let parts = ap (λ z. n *ℤ z) (quotient_is a d h) ∙ product_parts n q r (pos d) in
    let sum = +ℤ-*ℤ (n *ℤ q) (int_div_euclid y (pos d)) (pos d) in
    same_quotient _ _ (int_rem_euclid (n *ℤ a) (pos d)) (int_rem_euclid y (pos d)) d
    (omega (arith, ints, quotient_is (n *ℤ a) d h, parts, sum, quotient_is y d h))
    (rem_at_least (n *ℤ a) d h) (rem_below (n *ℤ a) d h) (rem_at_least y d h) (rem_below y d h)

div_small : (y : ℤ) (d : ℕ) → 0 < d → unsigned_abs y ≤ 2 ^ 63 * d → unsigned_abs (int_div_euclid y (pos d)) ≤ 2 ^ 63
div_small (pos n) d h b = div-le_of_le-mul d (omega (arith, b))
div_small (negsuc n) d h b =
    let under : n / d < 2 ^ 63 = (div-lt_iff_lt-mul h).1 (omega (arith, b)) in
    omega (arith, under)

-- the part that the remainder gives is small
pub part_small : (n a : ℤ) (d : ℕ) → 0 < d → unsigned_abs n ≤ 2 ^ 63 → unsigned_abs (int_div_euclid (n *ℤ int_rem_euclid a (pos d)) (pos d)) ≤ 2 ^ 63
part_small n a d h b =
    let y = n *ℤ int_rem_euclid a (pos d) in
    let r = int_rem_euclid a (pos d) in
    let size = unsigned_abs-mul n r in
    let below : unsigned_abs r ≤ d = omega (arith, ints, rem_at_least a d h, rem_below a d h) in
    let product = mul-le-mul b below in
    div_small y d h (omega (arith, size, product))

pub not_fits : (z : ℤ) → (FitsSigned w128 z → ⊥) → 2 ^ 127 ≤ unsigned_abs z
not_fits z n = by_cases (cases_lt (unsigned_abs z) (2 ^ 127))
  where
    by_cases : (unsigned_abs z < 2 ^ 127) ⊎ (2 ^ 127 ≤ unsigned_abs z) → 2 ^ 127 ≤ unsigned_abs z
    by_cases (inl l) = absurd (n (fits_signed_from_abs w128 z l))
    by_cases (inr g) = g
