-- What the operations on forms do to their values.
use Rattle.std.proofs.Common.{◌≡◌, ℕ, ℤ, pos, neg_ℤ, ◌+ℤ◌, ◌-ℤ◌, ◌*ℤ◌, ◌≤ℤ◌, ◌<ℤ◌, Bool, true, false, cond, [], ◌∷◌, ◌↔◌, IsTrue, refl, ◌∙◌, ap, arith}
use Rattle.std.specs.Ordering.{int_eq}
use Rattle.std.specs.Int.{int_div_euclid, int_rem_euclid}
use Rattle.std.specs.Int.Signed.{lt_z}
use Rattle.std.proofs.lemmas.Int.{ints}
use Rattle.std.proofs.lemmas.Bool.{and_parts}
use Rattle.std.proofs.lemmas.Bool.Decides.{Decides-int_eq}
use Rattle.lin_proof.specs.Form.{Form, Terms, terms_value, value, opposites, denied, put, plus_term, plus_terms, plus}
use Rattle.lin_proof.specs.Cut.{are_multiples, divides, quotients, cut}
use Rattle.lin_proof.proofs.Sums.{plus_term-cases}
use Rattle.lin_proof.proofs.Whole.{neg_product, distribute, distribute_left, associate, div_below, div_exact, above_by, times_above}

terms_value-opposites : (ts : Terms) (v : ℕ → ℤ) → terms_value (opposites ts) v ≡ neg_ℤ (terms_value ts v)
terms_value-opposites [] v = refl
terms_value-opposites (t ∷ ts) v = omega (arith, ints, terms_value-opposites ts v, neg_product t.1 (v t.0))

pub value-denied : (f : Form) (v : ℕ → ℤ) → value (denied f) v ≡ neg_ℤ (value f v) -ℤ pos 1
value-denied f v = omega (arith, ints, terms_value-opposites f.terms v)

value_by : (b : Bool) (x : ℕ) (c : ℤ) (ts : Terms) (v : ℕ → ℤ) → (b ≡ true → c ≡ pos 0) → terms_value (cond b ts ((x, c) ∷ ts)) v ≡ c *ℤ v x +ℤ terms_value ts v
value_by true x c ts v h = rw (h refl) (omega (arith, ints))
value_by false x c ts v h = refl

pub terms_value-put : (x : ℕ) (c : ℤ) (ts : Terms) (v : ℕ → ℤ) → terms_value (put x c ts) v ≡ c *ℤ v x +ℤ terms_value ts v
terms_value-put x c ts v = value_by (int_eq c (pos 0)) x c ts v (Decides-int_eq c (pos 0)).0

terms_value-plus_term : (x : ℕ) (c : ℤ) (ts : Terms) (v : ℕ → ℤ) → terms_value (plus_term x c ts) v ≡ c *ℤ v x +ℤ terms_value ts v
terms_value-plus_term x c [] v = terms_value-put x c [] v
terms_value-plus_term x c (t ∷ ts) v =
    plus_term-cases (λ us. terms_value us v ≡ c *ℤ v x +ℤ terms_value (t ∷ ts) v) x c t ts
    (λ _. terms_value-put x c (t ∷ ts) v)
    (λ e. terms_value-put x (t.1 +ℤ c) ts v ∙ rw e (omega (arith, ints, distribute t.1 c (v t.0))))
    (λ _. omega (arith, ints, terms_value-plus_term x c ts v))

pub terms_value-plus_terms : (ts : Terms) (m : ℤ) (us : Terms) (v : ℕ → ℤ) → terms_value (plus_terms ts m us) v ≡ terms_value ts v +ℤ m *ℤ terms_value us v
terms_value-plus_terms ts m [] v = omega (arith, ints)
terms_value-plus_terms ts m (u ∷ us) v =
    terms_value-plus_term u.0 (m *ℤ u.1) (plus_terms ts m us) v ∙ omega (arith, ints, terms_value-plus_terms ts m us v, associate m u.1 (v u.0), distribute_left m (u.1 *ℤ v u.0) (terms_value us v))

pub value-plus : (f : Form) (m : ℤ) (g : Form) (v : ℕ → ℤ) → value (plus f m g) v ≡ value f v +ℤ m *ℤ value g v
value-plus f m g v = omega (arith, ints, terms_value-plus_terms f.terms m g.terms v, distribute_left m g.k (terms_value g.terms v))

terms_value-quotients : (d : ℤ) (ts : Terms) (v : ℕ → ℤ) → pos 0 <ℤ d → are_multiples d ts ≡ true → terms_value ts v ≡ d *ℤ terms_value (quotients d ts) v
terms_value-quotients d [] v h div = omega (arith, ints)
terms_value-quotients d (t ∷ ts) v h div =
    let both = and_parts (int_eq (int_rem_euclid t.1 d) (pos 0)) (are_multiples d ts) div in
    let exact = div_exact t.1 d h ((Decides-int_eq (int_rem_euclid t.1 d) (pos 0)).0 both.0) in
    let q = int_div_euclid t.1 d in
    omega (arith, ints, ap (λ a. a *ℤ v t.0) exact, associate d q (v t.0), distribute_left d (q *ℤ v t.0) (terms_value (quotients d ts) v), terms_value-quotients d ts v h both.1)

pub value-cut : (f : Form) (d : ℤ) → IsTrue (divides d f) → (v : ℕ → ℤ) → (pos 0 ≤ℤ value f v) ↔ (pos 0 ≤ℤ value (cut d f) v)
value-cut f d divided v =
    let both = and_parts (lt_z (pos 0) d) (are_multiples d f.terms) divided in
    let above : pos 0 <ℤ d = omega (arith, ints, both.0) in
    let q = int_div_euclid f.k d in
    let rest = terms_value (quotients d f.terms) v in
    let exact = terms_value-quotients d f.terms v above both.1 in
    let floor = div_below f.k d above in
    let whole = distribute_left d q rest in (
      λ at_least. above_by d (q +ℤ rest) above (omega (arith, ints, exact, whole, floor.1)),
      λ at_least. omega (arith, ints, exact, whole, floor.0, times_above d (q +ℤ rest) above at_least),
    )
