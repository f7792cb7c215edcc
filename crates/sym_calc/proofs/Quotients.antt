-- Quotients and remainders of forms: their terms are in order, and what their values come to.
use Rattle.std.proofs.Common.{◌≡◌, ℕ, ◌+◌, ◌<◌, ℤ, pos, negsuc, ◌+ℤ◌, ◌*ℤ◌, ◌≤ℤ◌, ◌<ℤ◌, Bool, true, false, cond, [], ◌∷◌, ◌++◌, length, take, get_or, refl, sym, ◌∙◌, ap, arith}
use Rattle.std.specs.Ordering.{int_eq}
use Rattle.std.specs.Int.{int_div_euclid, int_rem_euclid}
use Rattle.std.proofs.lemmas.Int.{ints}
use Rattle.std.proofs.lemmas.List.{take_more}
use Rattle.lin_proof.specs.Form.{Form, Terms, terms_value, value, put, plus, IsAbove, IsCanonical}
use Rattle.lin_proof.proofs.Sums.{IsAbove-put, IsCanonical-put}
use Rattle.lin_proof.proofs.Values.{terms_value-put, value-plus}
use Rattle.lin_proof.proofs.Whole.{distribute, distribute_left, associate, div_below}
use Rattle.cert_semantics.specs.Facts.{row_of}
use Rattle.cert_semantics.proofs.Values.{one_floor}
use Rattle.sym_calc.specs.Division.{changed, quotient_terms, remainder_terms, quotient, remainder}

-- ---- terms in order

put-append : (x : ℕ) (c : ℤ) (ts us : Terms) → put x c ts ++ us ≡ put x c (ts ++ us)
put-append x c ts us = by_test (int_eq c (pos 0))
  where
    by_test : (b : Bool) → cond b ts ((x, c) ∷ ts) ++ us ≡ cond b (ts ++ us) ((x, c) ∷ (ts ++ us))
    by_test true = refl
    by_test false = refl

changed-append : (g : ℤ → ℤ) (ts us : Terms) → changed g (ts ++ us) ≡ changed g ts ++ changed g us
changed-append g [] us = refl
changed-append g (t ∷ ts) us = ap (put t.0 (g t.1)) (changed-append g ts us) ∙ sym (put-append t.0 (g t.1) (changed g ts) (changed g us))

pub changed-more : (g : ℤ → ℤ) (ts : Terms) (i : ℕ) (t : ℕ × ℤ) → i < length ts
    → changed g (take (i + 1) ts) ≡ changed g (take i ts) ++ put (get_or ts i t).0 (g (get_or ts i t).1) []
changed-more g ts i t less = ap (changed g) (take_more ts i t less) ∙ changed-append g (take i ts) (get_or ts i t ∷ [])

IsAbove-changed : (g : ℤ → ℤ) (y : ℕ) (ts : Terms) → IsAbove y ts → IsAbove y (changed g ts)
IsAbove-changed g y [] h = tt
IsAbove-changed g y (t ∷ ts) h = IsAbove-put y t.0 (g t.1) (changed g ts) h.0 (IsAbove-changed g y ts h.1)

pub IsCanonical-changed : (g : ℤ → ℤ) (ts : Terms) → IsCanonical ts → IsCanonical (changed g ts)
IsCanonical-changed g [] h = tt
IsCanonical-changed g (t ∷ ts) h =
    IsCanonical-put t.0 (g t.1) (changed g ts) (IsAbove-changed g t.0 ts h.0) (IsCanonical-changed g ts h.2)

-- ---- whole numbers

parts_of : (a d : ℤ) → pos 0 <ℤ d → a ≡ d *ℤ int_div_euclid a d +ℤ int_rem_euclid a d
parts_of (pos a) (pos d) h = omega (arith, ints)
parts_of (negsuc a) (pos d) h = omega (arith, ints)
parts_of a (negsuc d) h = absurd (omega (arith, ints))

-- a number of which a multiple of d is known has that multiple in its floor
pub floor_of_sum : (d q r : ℤ) → pos 0 <ℤ d → int_div_euclid (d *ℤ q +ℤ r) d ≡ q +ℤ int_div_euclid r d
floor_of_sum d q r above =
    let whole = div_below (d *ℤ q +ℤ r) d above in
    let rest = div_below r d above in
    let sum = distribute_left d q (int_div_euclid r d) in
    one_floor d (d *ℤ q +ℤ r) (int_div_euclid (d *ℤ q +ℤ r) d) (q +ℤ int_div_euclid r d) above whole.0 whole.1
    (omega (arith, ints, sum, rest.0)) (omega (arith, ints, sum, rest.1))

-- ---- values

terms_parts : (d : ℤ) (ts : Terms) (v : ℕ → ℤ) → pos 0 <ℤ d → terms_value ts v ≡ d *ℤ terms_value (quotient_terms d ts) v +ℤ terms_value (remainder_terms d ts) v
terms_parts d [] v h = omega (arith, ints)
terms_parts d (t ∷ ts) v h =
    let q = int_div_euclid t.1 d in
    let r = int_rem_euclid t.1 d in
    let x = v t.0 in
    let whole = terms_value (quotient_terms d ts) v in
    let of_quotient = ap (λ z. d *ℤ z) (terms_value-put t.0 q (quotient_terms d ts) v) in
    let of_remainder = terms_value-put t.0 r (remainder_terms d ts) v in
    let product = ap (λ a. a *ℤ x) (parts_of t.1 d h) in
    omega (arith, ints, terms_parts d ts v h, of_quotient, of_remainder, product, distribute (d *ℤ q) r x, associate d q x, distribute_left d (q *ℤ x) whole)

pub value_parts : (d : ℤ) (f : Form) (v : ℕ → ℤ) → pos 0 <ℤ d → value f v ≡ d *ℤ value (quotient d f) v +ℤ value (remainder d f) v
value_parts d f v h =
    let q = int_div_euclid f.k d in
    let whole = terms_value (quotient_terms d f.terms) v in
    omega (arith, ints, parts_of f.k d h, terms_parts d f.terms v h, distribute_left d q whole)

pub floor_parts : (d : ℤ) (f : Form) (v : ℕ → ℤ) → pos 0 <ℤ d → int_div_euclid (value f v) d ≡ value (quotient d f) v +ℤ int_div_euclid (value (remainder d f) v) d
floor_parts d f v h = ap (λ z. int_div_euclid z d) (value_parts d f v h) ∙ floor_of_sum d (value (quotient d f) v) (value (remainder d f) v) h

-- a remainder has the floor 0
floor_of_remainder : (a d : ℤ) → pos 0 <ℤ d → int_div_euclid (int_rem_euclid a d) d ≡ pos 0
floor_of_remainder a d above =
    let r = int_rem_euclid a d in
    let whole = div_below r d above in
    let low = at_least a d above in
    let high = below a d above in
    let none : d *ℤ pos 0 ≡ pos 0 = omega (arith, ints) in
    one_floor d r (int_div_euclid r d) (pos 0) above whole.0 whole.1 (omega (arith, ints, none, low)) (omega (arith, ints, none, high))
  where
    at_least : (b m : ℤ) → pos 0 <ℤ m → pos 0 ≤ℤ int_rem_euclid b m
    at_least (pos b) (pos m) h = omega (arith, ints)
    at_least (negsuc b) (pos m) h = omega (arith, ints)
    at_least b (negsuc m) h = absurd (omega (arith, ints))

    below : (b m : ℤ) → pos 0 <ℤ m → int_rem_euclid b m <ℤ m
    below (pos b) (pos m) h = omega (arith, ints)
    below (negsuc b) (pos m) h = omega (arith, ints)
    below b (negsuc m) h = absurd (omega (arith, ints))

-- where nothing but a number is left the quotient is the floor
pub floor_alone : (d : ℤ) (f : Form) (v : ℕ → ℤ) → pos 0 <ℤ d → remainder_terms d f.terms ≡ [] → value (quotient d f) v ≡ int_div_euclid (value f v) d
floor_alone d f v above none =
    let r = int_rem_euclid f.k d in
    let rest : value (remainder d f) v ≡ r +ℤ pos 0 = ap (λ ts. r +ℤ terms_value ts v) none in
    let zero : int_div_euclid (value (remainder d f) v) d ≡ pos 0 =
    ap (λ z. int_div_euclid z d) rest ∙ ap (λ z. int_div_euclid z d) (unit r) ∙ floor_of_remainder f.k d above in
    let all = floor_parts d f v above in
    omega (arith, ints, zero, all)
  where
    unit : (z : ℤ) → z +ℤ pos 0 ≡ z
    unit z = omega (arith, ints)

-- and else the quotient and the floor of the remainder
pub floor_with : (d : ℤ) (f : Form) (x : ℕ) (v : ℕ → ℤ) → pos 0 <ℤ d → v x ≡ int_div_euclid (value (remainder d f) v) d
    → value (plus (quotient d f) (pos 1) (row_of (pos 0) (pos 1) x)) v ≡ int_div_euclid (value f v) d
floor_with d f x v above is =
    let sum = value-plus (quotient d f) (pos 1) (row_of (pos 0) (pos 1) x) v in
    let all = floor_parts d f v above in
    omega (arith, ints, sum, all, is)

-- the same of rows that are a quotient and a remainder
pub alone_by : (d : ℤ) (f whole rest : Form) (v : ℕ → ℤ) → pos 0 <ℤ d → whole ≡ quotient d f → rest ≡ remainder d f → rest.terms ≡ [] → value whole v ≡ int_div_euclid (value f v) d
alone_by d f whole rest v above is left none =
    ap (λ g. value g v) is ∙ floor_alone d f v above (sym (ap (λ (g : Form). g.terms) left) ∙ none)

pub with_by : (d : ℤ) (f whole rest : Form) (x : ℕ) (v : ℕ → ℤ) → pos 0 <ℤ d → whole ≡ quotient d f → rest ≡ remainder d f → v x ≡ int_div_euclid (value rest v) d
    → value (plus whole (pos 1) (row_of (pos 0) (pos 1) x)) v ≡ int_div_euclid (value f v) d
with_by d f whole rest x v above is left at =
    ap (λ g. value (plus g (pos 1) (row_of (pos 0) (pos 1) x)) v) is ∙ floor_with d f x v above (at ∙ ap (λ g. int_div_euclid (value g v) d) left)
