-- Sums of terms, term by term from the front.
use Rattle.std.proofs.Common.{◌≡◌, ◌≢◌, ℕ, ◌<◌, ◌^◌, ℤ, pos, ◌+ℤ◌, ◌*ℤ◌, Bool, true, false, cond, [], ◌∷◌, length, Some, negsuc, FitsSigned, refl, sym, ◌∙◌, ap, subst, inl, inr, arith}
use Rattle.std.specs.Ordering.{int_eq}
use Rattle.std.proofs.lemmas.Int.{ints}
use Rattle.std.proofs.lemmas.Bool.{cases_lt, false≢true, lt-ltb}
use Rattle.std.proofs.lemmas.Bool.Decides.{nat_tests, Decides-int_eq}
use Rattle.std.specs.Int.{w128}
use Rattle.lin_proof.specs.steps.Front.{checked}
use Rattle.lin_proof.specs.Form.{Terms, IsAbove, IsCanonical, put, plus_term, plus_terms}

pub above_lower : (x y : ℕ) (ts : Terms) → x < y → IsAbove y ts → IsAbove x ts
above_lower x y [] lt above = tt
above_lower x y (t ∷ ts) lt above = (omega arith, above_lower x y ts lt above.1)

pub IsAbove-put : (x y : ℕ) (c : ℤ) (ts : Terms) → x < y → IsAbove x ts → IsAbove x (put y c ts)
IsAbove-put x y c ts lt above = elim (int_eq c (pos 0)) as (λ b. IsAbove x (cond b ts ((y, c) ∷ ts))) [ true ↦ above | false ↦ (lt, above) ]

plus_term-past : (x : ℕ) (c : ℤ) (t : ℕ × ℤ) (ts : Terms) → t.0 < x → plus_term x c (t ∷ ts) ≡ t ∷ plus_term x c ts
plus_term-past x c t ts lt = grind (arith, nat_tests)

plus_term-at : (x : ℕ) (c : ℤ) (t : ℕ × ℤ) (ts : Terms) → x ≡ t.0 → plus_term x c (t ∷ ts) ≡ put x (t.1 +ℤ c) ts
plus_term-at x c t ts e = grind (arith, nat_tests)

plus_term-before : (x : ℕ) (c : ℤ) (t : ℕ × ℤ) (ts : Terms) → x < t.0 → plus_term x c (t ∷ ts) ≡ put x c (t ∷ ts)
plus_term-before x c t ts lt = grind (arith, nat_tests)

canonical_by : (b : Bool) (ts : Terms) (x : ℕ) (c : ℤ) → IsAbove x ts → IsCanonical ts → (c ≡ pos 0 → b ≡ true) → IsCanonical (cond b ts ((x, c) ∷ ts))
canonical_by true ts x c above h test = h
canonical_by false ts x c above h test = (above, λ none. false≢true (test none), h)

pub int_eq-false : (a : ℤ) → a ≢ pos 0 → int_eq a (pos 0) ≡ false
int_eq-false a h = grind (arith, ints)

-- the variable comes before t, is that of t or comes past it
pub plus_term-cases : (P : Terms → Type 0) (x : ℕ) (c : ℤ) (t : ℕ × ℤ) (ts : Terms) → (x < t.0 → P (put x c (t ∷ ts))) → (x ≡ t.0 → P (put x (t.1 +ℤ c) ts)) → (t.0 < x → P (t ∷ plus_term x c ts)) → P (plus_term x c (t ∷ ts))
plus_term-cases P x c t ts before same past =
    elim (cases_lt x t.0) [
      | inl lt ↦ subst P (sym (plus_term-before x c t ts lt)) (before lt)
      | inr le ↦ elim (cases_lt t.0 x) [
        | inl gt ↦ subst P (sym (plus_term-past x c t ts gt)) (past gt)
        | inr ge ↦ let e : x ≡ t.0 = omega arith in subst P (sym (plus_term-at x c t ts e)) (same e)
      ]
    ]

IsAbove-plus_term : (x y : ℕ) (c : ℤ) (ts : Terms) → x < y → IsAbove x ts → IsAbove x (plus_term y c ts)
IsAbove-plus_term x y c [] lt above = IsAbove-put x y c [] lt above
IsAbove-plus_term x y c (t ∷ ts) lt above =
    plus_term-cases (IsAbove x) y c t ts
    (λ _. IsAbove-put x y c (t ∷ ts) lt above)
    (λ _. IsAbove-put x y (t.1 +ℤ c) ts lt above.1)
    (λ _. (above.0, IsAbove-plus_term x y c ts lt above.1))

IsAbove-plus_terms : (x : ℕ) (ts : Terms) (m : ℤ) (us : Terms) → IsAbove x ts → IsAbove x us → IsAbove x (plus_terms ts m us)
IsAbove-plus_terms x ts m [] above others = above
IsAbove-plus_terms x ts m (u ∷ us) above others = IsAbove-plus_term x u.0 (m *ℤ u.1) (plus_terms ts m us) others.0 (IsAbove-plus_terms x ts m us above others.1)

pub IsCanonical-put : (x : ℕ) (c : ℤ) (ts : Terms) → IsAbove x ts → IsCanonical ts → IsCanonical (put x c ts)
IsCanonical-put x c ts above h =
    let tells = Decides-int_eq c (pos 0) in
    canonical_by (int_eq c (pos 0)) ts x c above h tells.1

IsCanonical-plus_term : (x : ℕ) (c : ℤ) (ts : Terms) → IsCanonical ts → IsCanonical (plus_term x c ts)
IsCanonical-plus_term x c [] h = IsCanonical-put x c [] tt tt
IsCanonical-plus_term x c (t ∷ ts) h =
    plus_term-cases IsCanonical x c t ts
    (λ lt. IsCanonical-put x c (t ∷ ts) (lt, above_lower x t.0 ts lt h.0) h)
    (λ e. IsCanonical-put x (t.1 +ℤ c) ts (subst (λ y. IsAbove y ts) (sym e) h.0) h.2)
    (λ lt. (IsAbove-plus_term t.0 x c ts lt h.0, h.1, IsCanonical-plus_term x c ts h.2))

pub IsCanonical-plus_terms : (ts : Terms) (m : ℤ) (us : Terms) → IsCanonical ts → IsCanonical (plus_terms ts m us)
IsCanonical-plus_terms ts m [] h = h
IsCanonical-plus_terms ts m (u ∷ us) h = IsCanonical-plus_term u.0 (m *ℤ u.1) (plus_terms ts m us) (IsCanonical-plus_terms ts m us h)

-- a term below all of them is put in front
plus_term-first : (x : ℕ) (c : ℤ) (ts : Terms) → IsAbove x ts → plus_term x c ts ≡ put x c ts
plus_term-first x c [] above = refl
plus_term-first x c (t ∷ ts) above = plus_term-before x c t ts above.0

-- a first term below all others stays in front
plus_terms-past : (t : ℕ × ℤ) (ts : Terms) (m : ℤ) (us : Terms) → IsAbove t.0 us → plus_terms (t ∷ ts) m us ≡ t ∷ plus_terms ts m us
plus_terms-past t ts m [] above = refl
plus_terms-past t ts m (u ∷ us) above =
    ap (plus_term u.0 (m *ℤ u.1)) (plus_terms-past t ts m us above.1) ∙ plus_term-past u.0 (m *ℤ u.1) t (plus_terms ts m us) above.0

-- the first term of a sum, by which of the two first terms is lower

pub front_left : (t : ℕ × ℤ) (ts : Terms) (m : ℤ) (us : Terms) → IsCanonical (t ∷ ts) → IsAbove t.0 us → plus_terms (t ∷ ts) m us ≡ put t.0 t.1 (plus_terms ts m us)
front_left t ts m us h above = plus_terms-past t ts m us above ∙ ap (λ b. cond b (plus_terms ts m us) (t ∷ plus_terms ts m us)) (sym (int_eq-false t.1 h.1))

pub front_right : (ts : Terms) (m : ℤ) (u : ℕ × ℤ) (us : Terms) → IsCanonical (u ∷ us) → IsAbove u.0 ts → plus_terms ts m (u ∷ us) ≡ put u.0 (m *ℤ u.1) (plus_terms ts m us)
front_right ts m u us h above = plus_term-first u.0 (m *ℤ u.1) (plus_terms ts m us) (IsAbove-plus_terms u.0 ts m us above h.0)

pub front_both : (t : ℕ × ℤ) (ts : Terms) (m : ℤ) (u : ℕ × ℤ) (us : Terms) → IsCanonical (u ∷ us) → u.0 ≡ t.0 → plus_terms (t ∷ ts) m (u ∷ us) ≡ put u.0 (t.1 +ℤ m *ℤ u.1) (plus_terms ts m us)
front_both t ts m u us h e =
    ap (plus_term u.0 (m *ℤ u.1)) (plus_terms-past t ts m us (subst (λ x. IsAbove x us) e h.0)) ∙ plus_term-at u.0 (m *ℤ u.1) t (plus_terms ts m us) e

-- what goes on in front of a sum, at lists of which the first item is known

pub front_less : (left : Terms) (m : ℤ) (right : Terms) (t u : ℕ × ℤ) (ts us : Terms) → left ≡ t ∷ ts → right ≡ u ∷ us → IsCanonical left → IsCanonical right → t.0 < u.0 → plus_terms left m right ≡ put t.0 t.1 (plus_terms ts m right)
front_less left m right t u ts us le re hl hr lt =
    rw (le, re) (front_left t ts m (u ∷ us) (rw le at hl) (lt, above_lower t.0 u.0 us lt (rw re at hr).0))

pub front_alone : (left : Terms) (m : ℤ) (right : Terms) (t : ℕ × ℤ) (ts : Terms) → left ≡ t ∷ ts → length right ≡ 0 → IsCanonical left → plus_terms left m right ≡ put t.0 t.1 (plus_terms ts m right)
front_alone left m [] t ts le none hl = rw le (front_left t ts m [] (rw le at hl) tt)
front_alone left m (u ∷ us) t ts le none hl = absurd (omega arith)

pub front_greater : (left : Terms) (m : ℤ) (right : Terms) (t u : ℕ × ℤ) (ts us : Terms) → left ≡ t ∷ ts → right ≡ u ∷ us → IsCanonical left → IsCanonical right → u.0 < t.0 → plus_terms left m right ≡ put u.0 (m *ℤ u.1) (plus_terms left m us)
front_greater left m right t u ts us le re hl hr lt =
    rw (le, re) (front_right (t ∷ ts) m u us (rw re at hr) (lt, above_lower u.0 t.0 ts lt (rw le at hl).0))

pub front_other : (left : Terms) (m : ℤ) (right : Terms) (u : ℕ × ℤ) (us : Terms) → length left ≡ 0 → right ≡ u ∷ us → IsCanonical right → plus_terms left m right ≡ put u.0 (m *ℤ u.1) (plus_terms left m us)
front_other [] m right u us none re hr = rw re (front_right [] m u us (rw re at hr) tt)
front_other (t ∷ ts) m right u us none re hr = absurd (omega arith)

pub front_equal : (left : Terms) (m : ℤ) (right : Terms) (t u : ℕ × ℤ) (ts us : Terms) → left ≡ t ∷ ts → right ≡ u ∷ us → IsCanonical left → IsCanonical right → t.0 ≡ u.0 → plus_terms left m right ≡ put u.0 (t.1 +ℤ m *ℤ u.1) (plus_terms ts m us)
front_equal left m right t u ts us le re hl hr e = rw (le, re) (front_both t ts m u us (rw re at hr) (sym e))

pub canonical_rest : (xs : Terms) (t : ℕ × ℤ) (ts : Terms) → xs ≡ t ∷ ts → IsCanonical xs → IsCanonical ts
canonical_rest xs t ts e h = (rw e at h).2

pub checked_fitting : (n : ℤ) → FitsSigned w128 n → checked n ≡ Some n
checked_fitting (pos n) h = rw (lt-ltb n (2 ^ 127) (omega (arith, ints))) refl
checked_fitting (negsuc n) h = rw (lt-ltb n (2 ^ 127) (omega (arith, ints))) refl
