-- Euclid's algorithm, and factors that make two numbers equal.
use Rattle.std.proofs.Common.{◌≡◌, ℕ, zero, suc, ◌+◌, ◌-◌, ◌*◌, ◌/◌, ◌%◌, ◌<◌, sym, ◌∙◌, ap, arith}
use Rattle.std.proofs.Math.Nat.{mul-sub, mod-add-div, mul-div_cancel_left}
use Rattle.lin_proof.specs.Multiples.{Divides, IsCommon, IsLowest}

-- what divides a multiple of x and of y divides that of the remainder
pub lifted : (n k x y : ℕ) → Divides n (k * x) → Divides n (k * y) → Divides n (k * (x % y))
lifted n k x y p q =
    let t = x / y in
    (p.0 - t * q.0, omega (arith, mul-sub n p.0 (t * q.0), ap (λ z. t * z) q.1, ap (λ z. k * z) (mod-add-div x y), p.1))

-- what divides y and the remainder divides x
pub undone : (d x y : ℕ) → Divides d y → Divides d (x % y) → Divides d x
undone d x y p q =
    let t = x / y in
    (q.0 + p.0 * t, omega (arith, mod-add-div x y, ap (λ z. z * t) p.1, q.1))

pub of_itself : (a : ℕ) → Divides a a
of_itself a = (1, omega arith)

pub of_zero : (a : ℕ) → Divides a 0
of_zero a = (0, omega arith)

pub positive : (g q b : ℕ) → 0 < b → b ≡ g * q → 0 < g
positive zero q b some is = absurd (omega arith)
positive (suc g) q b some is = omega arith

cancelled : (g x y : ℕ) → 0 < g → g * x ≡ g * y → x ≡ y
cancelled g x y some is = sym (mul-div_cancel_left x some) ∙ ap (λ z. z / g) is ∙ mul-div_cancel_left y some

-- a and b as multiples of their common divisor g
module _ (a b g α β : ℕ) (some : 0 < a) (other : 0 < b) (first : a ≡ g * α) (second : b ≡ g * β) (lifts : (n k : ℕ) → Divides n (k * a) → Divides n (k * b) → Divides n (k * g)) where
  above : 0 < g
  above = positive g β b other second

  lowest : (k l : ℕ) → k * a ≡ l * b → (t : ℕ) × (k ≡ t * β) × (l ≡ t * α)
  lowest k l same =
      let d : Divides b (k * g) = lifts b k (l, omega (arith, same)) (k, omega arith) in
      let t = d.0 in
      let k_is : k ≡ t * β = cancelled g k (t * β) above (omega (arith, d.1, ap (λ z. z * t) second)) in
      let l_is : l ≡ t * α = cancelled b l (t * α) other (omega (arith, same, ap (λ z. z * a) k_is, ap (λ z. t * β * z) first, ap (λ z. z * (t * α)) second)) in
      (t, k_is, l_is)

  pub IsLowest-of : IsLowest a b β α
  IsLowest-of = record {
    first = positive β g b other (omega (arith, second));
    second = positive α g a some (omega (arith, first));
    same = omega (arith, ap (λ z. β * z) first, ap (λ z. α * z) second);
    lowest = lowest;
  }

pub IsLowest-common : (a b g : ℕ) → 0 < a → 0 < b → IsCommon a b g → IsLowest a b (b / g) (a / g)
IsLowest-common a b g some other common =
    let α = common.first.0 in
    let β = common.second.0 in
    let above = positive g β b other common.second.1 in
    let β_is : b / g ≡ β = ap (λ z. z / g) common.second.1 ∙ mul-div_cancel_left β above in
    let α_is : a / g ≡ α = ap (λ z. z / g) common.first.1 ∙ mul-div_cancel_left α above in
    rw (β_is, α_is) (IsLowest-of a b g α β some other common.first.1 common.second.1 common.lifts)
