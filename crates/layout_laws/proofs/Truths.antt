-- Truth values, and orders of whole numbers as truth values.
use Rattle.std.proofs.Common.{◌≡◌, ℤ, ◌≤ℤ◌, ◌<ℤ◌, Bool, true, false, not, cond, ◌&&◌, ◌||◌, int_le, int_lt, IsTrue, refl, arith}
use Rattle.std.proofs.lemmas.Int.{ints}

pub le : (x y : ℤ) → IsTrue (int_le x y) → x ≤ℤ y
le x y h = grind (arith, ints)

pub is_le : (x y : ℤ) → x ≤ℤ y → IsTrue (int_le x y)
is_le x y h = grind (arith, ints)

pub lt : (x y : ℤ) → IsTrue (int_lt x y) → x <ℤ y
lt x y h = grind (arith, ints)

pub is_lt : (x y : ℤ) → x <ℤ y → IsTrue (int_lt x y)
is_lt x y h = grind (arith, ints)

pub left_of : (a b : Bool) → IsTrue (a && b) → IsTrue a
left_of true b h = refl
left_of false b h = h

pub right_of : (a b : Bool) → IsTrue (a && b) → IsTrue b
right_of true b h = h
right_of false b h = absurd (cc)

pub both_of : (a b : Bool) → IsTrue a → IsTrue b → IsTrue (a && b)
both_of true b h k = k
both_of false b h k = h

-- where the premise holds, so does the conclusion
pub implied : (a b : Bool) → IsTrue a → IsTrue (not a || b) → IsTrue b
implied true b h k = k
implied false b h k = absurd (cc)

pub implies : (a b : Bool) → (IsTrue a → IsTrue b) → IsTrue (not a || b)
implies true b h = h refl
implies false b h = refl

pub on_true : (c x y : Bool) → IsTrue c → IsTrue (cond c x y) → IsTrue x
on_true true x y t h = h
on_true false x y t h = absurd (cc)

pub on_false : (c x y : Bool) → c ≡ false → IsTrue (cond c x y) → IsTrue y
on_false true x y t h = absurd (cc)
on_false false x y t h = h

pub by_cond : (c x y : Bool) → (IsTrue c → IsTrue x) → (c ≡ false → IsTrue y) → IsTrue (cond c x y)
by_cond true x y h k = h refl
by_cond false x y h k = k refl
