-- Sizes of sums and of fractions.
use Rattle.std.proofs.Common.{◌≡◌, ℕ, zero, suc, ◌+◌, ◌*◌, ◌/◌, ◌<◌, ◌≤◌, ℤ, pos, negsuc, ◌+ℤ◌, ◌-ℤ◌, ◌*ℤ◌, unsigned_abs, sym, subst, arith, Option, Some, None}
use Rattle.std.specs.Prelude.{◌≤ℤ◌}
use Rattle.std.specs.Int.{int_max, int_min, int_div_euclid}
use Rattle.std.specs.Option.{option_map_or}
use Rattle.std.proofs.lemmas.Int.{ints, clamps, unsigned_abs-mul}
use Rattle.std.proofs.Math.Nat.{mul-le-mul_left, div-mul-le_self, le-div_iff_mul-le, div-le_of_le-mul}
use lib.IntN.{pos-*ℤ-pos}

pub size-+ : (a b : ℤ) → unsigned_abs (a +ℤ b) ≤ unsigned_abs a + unsigned_abs b
size-+ a b = omega (arith, ints)

pub size-- : (a b : ℤ) → unsigned_abs (a -ℤ b) ≤ unsigned_abs a + unsigned_abs b
size-- a b = omega (arith, ints)

pub size-max : (a b : ℤ) (k : ℕ) → unsigned_abs a ≤ k → unsigned_abs b ≤ k → unsigned_abs (int_max a b) ≤ k
size-max a b k l m = omega (arith, ints, clamps)

pub size-min : (a b : ℤ) (k : ℕ) → unsigned_abs a ≤ k → unsigned_abs b ≤ k → unsigned_abs (int_min a b) ≤ k
size-min a b k l m = omega (arith, ints, clamps)

-- a number clamped by a maximum and then by a minimum is from the minimum to the greater of both
pub clamped-from : (most : Option ℤ) (least h : ℤ) → least ≤ℤ int_max (option_map_or (int_min h) most h) least
clamped-from None least h = omega (arith, ints, clamps)
clamped-from (Some m) least h = omega (arith, ints, clamps)

pub clamped-to : (most : Option ℤ) (least h : ℤ) → int_max (option_map_or (int_min h) most h) least ≤ℤ int_max h least
clamped-to None least h = omega (arith, ints, clamps)
clamped-to (Some m) least h = omega (arith, ints, clamps)

pub size-between : (a b z : ℤ) (k : ℕ) → a ≤ℤ z → z ≤ℤ b → unsigned_abs a ≤ k → unsigned_abs b ≤ k → unsigned_abs z ≤ k
size-between a b z k l m p q = omega (arith, ints)

-- ---- fractions

pub div-rises : (a b d : ℕ) → 0 < d → a ≤ b → a / d ≤ b / d
div-rises a b d l h = let q = div-mul-le_self a d in (le-div_iff_mul-le l).1 (omega (arith, q))

pub size-floor : (z : ℤ) (d : ℕ) → 0 < d → unsigned_abs (int_div_euclid z (pos d)) * d ≤ unsigned_abs z + d
size-floor (pos a) d l = let q = div-mul-le_self a d in omega (arith, q)
size-floor (negsuc a) d l = let q = div-mul-le_self a d in omega (arith, q)

pub size-fraction : (p z : ℤ) (d : ℕ) → 0 < d → unsigned_abs (int_div_euclid (p *ℤ z) (pos d)) * d ≤ unsigned_abs p * unsigned_abs z + d
size-fraction p z d l = let s = size-floor (p *ℤ z) d l in let m = unsigned_abs-mul p z in omega (arith, s, m)

-- a fraction of a number that is not negative grows with it
negative-product : (n x : ℕ) → negsuc n *ℤ pos (suc x) ≡ negsuc (n + x + n * x)
negative-product n x = omega (arith, ints)

pub fraction-grows : (k : ℤ) (x y d : ℕ) → 0 < d → x ≤ y → unsigned_abs (int_div_euclid (k *ℤ pos x) (pos d)) ≤ unsigned_abs (int_div_euclid (k *ℤ pos y) (pos d))
fraction-grows (pos n) x y d l h =
    subst (λ u. unsigned_abs (int_div_euclid u (pos d)) ≤ unsigned_abs (int_div_euclid (pos n *ℤ pos y) (pos d))) (sym (pos-*ℤ-pos n x))
    (subst (λ u. n * x / d ≤ unsigned_abs (int_div_euclid u (pos d))) (sym (pos-*ℤ-pos n y)) (div-rises (n * x) (n * y) d l (mul-le-mul_left n h)))
fraction-grows (negsuc n) zero y d l h =
    let none : negsuc n *ℤ pos 0 ≡ pos 0 = omega (arith, ints) in
    subst (λ u. unsigned_abs (int_div_euclid u (pos d)) ≤ unsigned_abs (int_div_euclid (negsuc n *ℤ pos y) (pos d))) (sym none) (let q = div-mul-le_self 0 d in let z : 0 / d ≤ 0 = div-le_of_le-mul d (omega arith) in omega (arith, z))
fraction-grows (negsuc n) (suc x) zero d l h = absurd (omega arith)
fraction-grows (negsuc n) (suc x) (suc y) d l h =
    let more = mul-le-mul_left n h in
    rw (negative-product n x, negative-product n y) (let q = div-rises (n + x + n * x) (n + y + n * y) d l (omega (arith, more)) in omega (arith, q))
