-- Comparisons of a width with a bound, and with one that is no wider than it need be.
use Rattle.std.proofs.Common.{◌≡◌, ℕ, zero, suc, ◌*◌, ◌^◌, ◌<◌, ◌≤◌, ℤ, pos, negsuc, neg_ℤ, ◌+ℤ◌, ◌*ℤ◌, ◌≤ℤ◌, ◌<ℤ◌, Bool, true, false, refl, ap, sym, subst, ◌∙◌, inl, inr, arith}
use Rattle.std.specs.Prelude.{◌⊎◌, int_le, unsigned_abs}
use Rattle.std.proofs.lemmas.Bool.{cases_lt}
use Rattle.std.proofs.lemmas.Int.{ints, clamps}
use Rattle.std.proofs.lemmas.Nat.{mul-le}
use Rattle.viz_base.specs.Numbers.{floor_of}
use Rattle.viz_base.specs.declared.sheets.Bound.TheVariants.{Em}
use Rattle.page_media.specs.Queries.{is_met}
use Rattle.page_media.specs.Guards.{held}

-- ---- floors

floor-between : (a : ℤ) → ((pos 1000000 *ℤ floor_of a 1000000) ≤ℤ a) × (a <ℤ (pos 1000000 *ℤ floor_of a 1000000 +ℤ pos 1000000))
floor-between (pos a) = (omega (arith, ints), omega (arith, ints))
floor-between (negsuc a) = (omega (arith, ints), omega (arith, ints))

tests-alike : (a b c d : ℤ) → (a ≤ℤ b → c ≤ℤ d) → (c ≤ℤ d → a ≤ℤ b) → int_le a b ≡ int_le c d
tests-alike a b c d to from = by (int_le a b) (int_le c d) refl refl
  where
    by : (p q : Bool) → int_le a b ≡ p → int_le c d ≡ q → p ≡ q
    by true true x y = refl
    by false false x y = refl
    by true false x y = let l : a ≤ℤ b = grind (arith, ints) in let k = to l in absurd (grind (arith, ints))
    by false true x y = let l : c ≤ℤ d = grind (arith, ints) in let k = from l in absurd (grind (arith, ints))

-- a number is at most a floor where its multiple is at most what is rounded
pub at_most_floor : (x a : ℤ) → int_le (pos 1000000 *ℤ x) a ≡ int_le x (floor_of a 1000000)
at_most_floor x a =
    let between = floor-between a in
    tests-alike (pos 1000000 *ℤ x) a x (floor_of a 1000000) (λ h. omega (arith, ints, between.0, between.1)) (λ h. omega (arith, ints, between.0, between.1))

-- and at least where the multiple is above what is rounded less the divisor
pub at_least_floor : (x a : ℤ) → int_le (a +ℤ neg_ℤ (pos 999999)) (pos 1000000 *ℤ x) ≡ int_le (floor_of a 1000000) x
at_least_floor x a =
    let between = floor-between a in
    tests-alike (a +ℤ neg_ℤ (pos 999999)) (pos 1000000 *ℤ x) (floor_of a 1000000) x (λ h. omega (arith, ints, between.0, between.1)) (λ h. omega (arith, ints, between.0, between.1))

-- ---- wide bounds

abs-within : (z : ℤ) (n : ℕ) → neg_ℤ (pos n) ≤ℤ z → z ≤ℤ pos n → unsigned_abs z ≤ n
abs-within (pos m) n l h = omega (arith, ints)
abs-within (negsuc m) n l h = omega (arith, ints)

pub held-small : (n : ℤ) → unsigned_abs (held n) ≤ 2 ^ 60
held-small n = abs-within (held n) (2 ^ 60) (omega (arith, ints, clamps)) (omega (arith, ints, clamps))

-- two numbers are equal, or both at least so wide, or both at most so far below zero
abbrev pub AreAsWide : ℤ → ℤ → Type 0
AreAsWide a b = (a ≡ b) ⊎ (((pos (2 ^ 60) ≤ℤ a) × (pos (2 ^ 60) ≤ℤ b)) ⊎ ((a ≤ℤ neg_ℤ (pos (2 ^ 60))) × (b ≤ℤ neg_ℤ (pos (2 ^ 60)))))

wide-product : (a n : ℕ) → 2 ^ 60 ≤ a → 2 ^ 60 ≤ a * suc n
wide-product a n h = let l : a * 1 ≤ a * suc n = mul-le a 1 a (suc n) (omega arith) (omega arith) in omega (arith, l, h)

pub held-times : (k : ℤ) (n : ℕ) → AreAsWide (held k *ℤ pos n) (k *ℤ pos n)
held-times (pos a) n = by_size n (cases_lt (2 ^ 60) a)
  where
    by_size : (n : ℕ) → (2 ^ 60 < a) ⊎ (a ≤ 2 ^ 60) → AreAsWide (held (pos a) *ℤ pos n) (pos a *ℤ pos n)
    by_size n (inr small) = let same : held (pos a) ≡ pos a = omega (arith, ints, clamps) in inl (ap (λ (z : ℤ). z *ℤ pos n) same)
    by_size zero (inl large) = inl (omega (arith, ints))
    by_size (suc n) (inl large) =
        let same : held (pos a) ≡ pos (2 ^ 60) = omega (arith, ints, clamps) in
        let wide = wide-product a n (omega arith) in
        let held_wide = wide-product (2 ^ 60) n (omega arith) in
        inr (inl ((subst (λ (z : ℤ). pos (2 ^ 60) ≤ℤ (z *ℤ pos (suc n))) (sym same) (omega (arith, ints, held_wide)), omega (arith, ints, wide))))
held-times (negsuc a) n = by_size n (cases_lt (2 ^ 60) (suc a))
  where
    by_size : (n : ℕ) → (2 ^ 60 < suc a) ⊎ (suc a ≤ 2 ^ 60) → AreAsWide (held (negsuc a) *ℤ pos n) (negsuc a *ℤ pos n)
    by_size n (inr small) = let same : held (negsuc a) ≡ negsuc a = omega (arith, ints, clamps) in inl (ap (λ (z : ℤ). z *ℤ pos n) same)
    by_size zero (inl large) = inl (omega (arith, ints))
    by_size (suc n) (inl large) =
        let same : held (negsuc a) ≡ neg_ℤ (pos (2 ^ 60)) = omega (arith, ints, clamps) in
        let wide = wide-product (suc a) n (omega arith) in
        let held_wide = wide-product (2 ^ 60) n (omega arith) in
        inr (inr ((subst (λ (z : ℤ). (z *ℤ pos (suc n)) ≤ℤ neg_ℤ (pos (2 ^ 60))) (sym same) (omega (arith, ints, held_wide)), omega (arith, ints, wide))))

-- a width below them compares alike
pub at_most_wide : (x : ℕ) (a b : ℤ) → x < 2 ^ 59 → AreAsWide a b → int_le (pos x) a ≡ int_le (pos x) b
at_most_wide x a b small (inl same) = ap (int_le (pos x)) same
at_most_wide x a b small (inr (inl wide)) = tests-alike (pos x) a (pos x) b (λ h. omega (arith, ints, wide.1)) (λ h. omega (arith, ints, wide.0))
at_most_wide x a b small (inr (inr below)) =
    tests-alike (pos x) a (pos x) b (λ h. absurd (omega (arith, ints, below.0))) (λ h. absurd (omega (arith, ints, below.1)))

pub at_least_wide : (x : ℕ) (less : ℕ) (a b : ℤ) → x < 2 ^ 59 → less < 2 ^ 20 → AreAsWide a b → int_le (a +ℤ neg_ℤ (pos less)) (pos x) ≡ int_le (b +ℤ neg_ℤ (pos less)) (pos x)
at_least_wide x less a b small few (inl same) = ap (λ (z : ℤ). int_le (z +ℤ neg_ℤ (pos less)) (pos x)) same
at_least_wide x less a b small few (inr (inl wide)) =
    tests-alike (a +ℤ neg_ℤ (pos less)) (pos x) (b +ℤ neg_ℤ (pos less)) (pos x) (λ h. absurd (omega (arith, ints, wide.0))) (λ h. absurd (omega (arith, ints, wide.1)))
at_least_wide x less a b small few (inr (inr below)) =
    tests-alike (a +ℤ neg_ℤ (pos less)) (pos x) (b +ℤ neg_ℤ (pos less)) (pos x) (λ h. omega (arith, ints, below.1)) (λ h. omega (arith, ints, below.0))

-- ---- features in `em`, by such comparisons

moved-left : (a b : ℤ) → a ≤ℤ (b +ℤ pos 999999) → (a +ℤ neg_ℤ (pos 999999)) ≤ℤ b
moved-left a b h = omega (arith, ints)

moved-right : (a b : ℤ) → (a +ℤ neg_ℤ (pos 999999)) ≤ℤ b → a ≤ℤ (b +ℤ pos 999999)
moved-right a b h = omega (arith, ints)

pub em-met-most : (a b k : ℤ) (w s : ℕ) (most : Bool) → most ≡ true → a ≡ pos 1000000 *ℤ pos (64 * w) → b ≡ k *ℤ pos (64 * s)
    → int_le a b ≡ is_met w s (record { most = most; bound = Em k })
em-met-most a b k w s true is left right =
    ap (λ (z : ℤ). int_le z b) left ∙ (ap (int_le (pos 1000000 *ℤ pos (64 * w))) right ∙ at_most_floor (pos (64 * w)) (k *ℤ pos (64 * s)))
em-met-most a b k w s false is left right = absurd (cc)

pub em-met-least : (a b k : ℤ) (w s : ℕ) (most : Bool) → most ≡ false → a ≡ pos 1000000 *ℤ pos (64 * w) +ℤ pos 999999 → b ≡ k *ℤ pos (64 * s)
    → int_le b a ≡ is_met w s (record { most = most; bound = Em k })
em-met-least a b k w s false is left right =
    ap (int_le b) left
    ∙ (ap (λ (z : ℤ). int_le z (pos 1000000 *ℤ pos (64 * w) +ℤ pos 999999)) right
    ∙ (tests-alike (k *ℤ pos (64 * s)) (pos 1000000 *ℤ pos (64 * w) +ℤ pos 999999) (k *ℤ pos (64 * s) +ℤ neg_ℤ (pos 999999)) (pos 1000000 *ℤ pos (64 * w))
    (moved-left (k *ℤ pos (64 * s)) (pos 1000000 *ℤ pos (64 * w))) (moved-right (k *ℤ pos (64 * s)) (pos 1000000 *ℤ pos (64 * w)))
    ∙ at_least_floor (pos (64 * w)) (k *ℤ pos (64 * s))))
em-met-least a b k w s true is left right = absurd (cc)
