-- What the rows of sums, differences and multiples come to.
use Rattle.std.proofs.Common.{◌≡◌, ℕ, ℤ, pos, negsuc, ◌+ℤ◌, ◌-ℤ◌, ◌*ℤ◌, [], ◌∙◌, ap, arith}
use Rattle.std.specs.Int.RustNames.{int_le}
use Rattle.std.proofs.lemmas.Int.{ints}
use Rattle.lin_proof.specs.Form.{Form, terms_value, value, plus}
use Rattle.lin_proof.proofs.Values.{value-plus}
use Rattle.sym_calc.proofs.Answering.{le_by_difference}

pub sum_at : (f g : Form) (v : ℕ → ℤ) → value (plus f (pos 1) g) v ≡ value f v +ℤ value g v
sum_at f g v = let is = value-plus f (pos 1) g v in omega (arith, ints, is)

pub difference_at : (f g : Form) (v : ℕ → ℤ) → value (plus f (negsuc 0) g) v ≡ value f v -ℤ value g v
difference_at f g v = let is = value-plus f (negsuc 0) g v in omega (arith, ints, is)

pub product_at : (f : Form) (n : ℤ) (g : Form) (v : ℕ → ℤ) → f ≡ record { k = pos 0; terms = [] } → value (plus f n g) v ≡ n *ℤ value g v
product_at f n g v zero =
    let is = value-plus f n g v in
    let none : value f v ≡ pos 0 = ap (λ h. value h v) zero in
    omega (arith, ints, is, none)

-- a difference without variables answers by its number
pub constant_le : (f g d : Form) (v : ℕ → ℤ) → d ≡ plus g (negsuc 0) f → d.terms ≡ [] → int_le (pos 0) d.k ≡ int_le (value f v) (value g v)
constant_le f g d v is none =
    let all : value d v ≡ value g v +ℤ negsuc 0 *ℤ value f v = ap (λ h. value h v) is ∙ value-plus g (negsuc 0) f v in
    let alone : value d v ≡ d.k +ℤ pos 0 = ap (λ ts. d.k +ℤ terms_value ts v) none in
    le_by_difference (value f v) (value g v) d.k (omega (arith, ints, all, alone))

pub row_le : (f g d : Form) (v : ℕ → ℤ) → d ≡ plus g (negsuc 0) f → int_le (pos 0) (value d v) ≡ int_le (value f v) (value g v)
row_le f g d v is = le_by_difference (value f v) (value g v) (value d v) (ap (λ h. value h v) is ∙ value-plus g (negsuc 0) f v)
