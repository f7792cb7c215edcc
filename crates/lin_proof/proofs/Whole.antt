-- Products and quotients of whole numbers. `omega` reads a whole number z as `up z - down z` and multiplies no equation
-- by itself: these lemmas hand it the multiplied ones.
use Rattle.std.proofs.Common.{◌≡◌, ◌-◌, ◌*◌, ◌%◌, ◌≤◌, suc, ℤ, pos, negsuc, neg_ℤ, ◌+ℤ◌, ◌*ℤ◌, ◌≤ℤ◌, ◌<ℤ◌, ap, arith}
use Rattle.std.specs.Int.{int_div_euclid, int_rem_euclid}
use Rattle.std.proofs.lemmas.Int.{ints}
use borrow.Author.Differences.{up, down, sum_is_lem, product_is, neg_is}

pub neg_product : (a b : ℤ) → neg_ℤ a *ℤ b ≡ neg_ℤ (a *ℤ b)
neg_product a b = let n = neg_is a in omega (arith, ints, ap (λ m. m * up b) n.0, ap (λ m. m * down b) n.0, ap (λ m. m * up b) n.1, ap (λ m. m * down b) n.1)

pub distribute : (a b c : ℤ) → (a +ℤ b) *ℤ c ≡ a *ℤ c +ℤ b *ℤ c
distribute a b c = let s = sum_is_lem a b in omega (arith, ints, ap (λ n. n * up c) s, ap (λ n. n * down c) s)

pub distribute_left : (a b c : ℤ) → a *ℤ (b +ℤ c) ≡ a *ℤ b +ℤ a *ℤ c
distribute_left a b c = let s = sum_is_lem b c in omega (arith, ints, ap (λ n. up a * n) s, ap (λ n. down a * n) s)

pub associate : (a b c : ℤ) → (a *ℤ b) *ℤ c ≡ a *ℤ (b *ℤ c)
associate a b c =
    let l = product_is a b in
    let r = product_is b c in
    omega (arith, ints, ap (λ n. n * up c) l.0, ap (λ n. n * down c) l.0, ap (λ n. n * up c) l.1, ap (λ n. n * down c) l.1, ap (λ n. up a * n) r.0, ap (λ n. down a * n) r.0, ap (λ n. up a * n) r.1, ap (λ n. down a * n) r.1)

-- division by a number above 0 rounds down

pub div_below : (a d : ℤ) → pos 0 <ℤ d → ((d *ℤ int_div_euclid a d) ≤ℤ a) × (a <ℤ (d *ℤ int_div_euclid a d +ℤ d))
div_below (pos a) (pos d) h = (omega (arith, ints), omega (arith, ints))
div_below (negsuc a) (pos d) h = (omega (arith, ints), omega (arith, ints))
div_below a (negsuc d) h = absurd (omega (arith, ints))

-- and leaves nothing where the remainder is 0
pub div_exact : (a d : ℤ) → pos 0 <ℤ d → int_rem_euclid a d ≡ pos 0 → a ≡ d *ℤ int_div_euclid a d
div_exact (pos a) (pos d) h e = let r : a % d ≡ 0 = ap up e in omega (arith, ints)
div_exact (negsuc a) (pos d) h e = let r : d - 1 - a % d ≡ 0 = ap up e in omega (arith, ints)
div_exact a (negsuc d) h e = absurd (omega (arith, ints))

-- a whole number above -1 after a division
pub above_by : (d z : ℤ) → pos 0 <ℤ d → neg_ℤ d <ℤ (d *ℤ z) → pos 0 ≤ℤ z
above_by d (pos n) h k = omega (arith, ints)
above_by (pos d) (negsuc n) h k = let big : d ≤ d * suc n = grind arith in absurd (omega (arith, ints))
above_by (negsuc d) (negsuc n) h k = absurd (omega (arith, ints))

-- a multiple of what is at least 0
pub times_above : (m z : ℤ) → pos 0 <ℤ m → pos 0 ≤ℤ z → pos 0 ≤ℤ (m *ℤ z)
times_above (pos m) (pos z) h k = omega (arith, ints)
times_above (pos m) (negsuc z) h k = absurd (omega (arith, ints))
times_above (negsuc m) z h k = absurd (omega (arith, ints))
