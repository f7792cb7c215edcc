-- Positive multiples of two numbers that cancel each other.
use Rattle.std.specs.Prelude.{◌≡◌, ℕ, ◌*◌, ◌<◌, ℤ, pos, ◌+ℤ◌, ◌*ℤ◌, ◌<ℤ◌, true}
use Rattle.lin_proof.specs.Number.{in_i128}
use Rattle.lin_proof.specs.declared.multiples.Multiples.{Multiples}

abbrev pub Divides : ℕ → ℕ → Type 0
Divides n m = (q : ℕ) × (m ≡ n * q)

-- g divides both numbers, and what divides a multiple of each, by the same factor, divides that multiple of g
pub record IsCommon (a b g : ℕ) : Type 0 where
  pub first : Divides g a
  pub second : Divides g b
  pub lifts : (n k : ℕ) → Divides n (k * a) → Divides n (k * b) → Divides n (k * g)

-- p times a is q times b, and all such factors are multiples of these
pub record IsLowest (a b p q : ℕ) : Type 0 where
  pub first : 0 < p
  pub second : 0 < q
  pub same : p * a ≡ q * b
  pub lowest : (k l : ℕ) → k * a ≡ l * b → (t : ℕ) × (k ≡ t * p) × (l ≡ t * q)

-- a times c and b times e cancel each other
pub record Cancels (c e a b : ℤ) : Type 0 where
  pub first : pos 0 <ℤ a
  pub second : pos 0 <ℤ b
  pub sum : a *ℤ c +ℤ b *ℤ e ≡ pos 0

-- these multiples cancel c and e, and all that do are multiples of them
pub record IsLeast (c e : ℤ) (m : Multiples) : Type 0 where
  pub cancels : Cancels c e m.first m.second
  pub least : (a b : ℤ) → Cancels c e a b → (t : ℤ) × (pos 0 <ℤ t) × (a ≡ t *ℤ m.first) × (b ≡ t *ℤ m.second)

-- no multiples in `i128` cancel c and e
abbrev pub NoneCancel : ℤ → ℤ → Type 0
NoneCancel c e = (a b : ℤ) → in_i128 a ≡ true → in_i128 b ≡ true → Cancels c e a b → ⊥
