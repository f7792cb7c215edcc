-- Sums of multiples of two forms that are contradictions: the least multiples give one if any do.
use Rattle.std.specs.Prelude.{if◌then◌else◌}
use Rattle.std.proofs.Common.{◌≡◌, ◌≢◌, ◌⊎◌, ℕ, zero, suc, ◌^◌, ◌<◌, ◌==◌, ℤ, pos, negsuc, ◌+ℤ◌, ◌*ℤ◌, ◌≤ℤ◌, ◌<ℤ◌, Bool, true, false, cond, ◌&&◌, [], ◌∷◌, length, Option, Some, None, inl, inr, refl, sym, ◌∙◌, ap, subst, arith}
use Rattle.std.specs.Prelude.{option_and_then, slice_get, MatchOption}
use Rattle.std.specs.Int.Signed.{lt_z}
use Rattle.std.proofs.lemmas.Int.{ints}
use Rattle.std.proofs.lemmas.Bool.{and_parts, false≢true, cases_lt}
use Rattle.std.proofs.lemmas.Bool.Decides.{nat_tests}
use Rattle.std.proofs.lemmas.Option.{cond_some}
use Rattle.lin_proof.specs.Number.{in_i128}
use Rattle.lin_proof.specs.Form.{Form, Terms, IsAbove, IsCanonical, terms_value, terms_fit, form_fits, checked_form, plus, plus_terms}
use Rattle.lin_proof.proofs.Sums.{above_lower, IsCanonical-plus_terms, front_right}
use Rattle.lin_proof.proofs.Merges.{put_nonzero}
use Rattle.lin_proof.proofs.Values.{terms_value-plus_terms}
use Rattle.lin_proof.proofs.Whole.{distribute_left, associate, times_above}
use Rattle.lin_proof.specs.Derivations.{zero_form, checked_plus, sum_from, is_contradiction}
use Rattle.lin_proof.specs.declared.multiples.Multiples.{Multiples}
use Rattle.lin_proof.specs.Multiples.{Cancels, IsLeast, NoneCancel}
use Rattle.lin_proof.specs.Pairs.{IsBest, IsFirst, closes, sum_of_two}

-- ---- what a sum that closes is made of

abbrev pub sum_terms : Form → ℤ → Form → ℤ → Terms
sum_terms f a g b = plus_terms (plus_terms [] a f.terms) b g.terms

pub record Parts (f g : Form) (a b : ℤ) : Type 0 where
  pub a_fits : in_i128 a ≡ true
  pub b_fits : in_i128 b ≡ true
  pub first : pos 0 <ℤ a
  pub second : pos 0 <ℤ b
  pub once : form_fits (plus zero_form a f) ≡ true
  pub twice : form_fits (plus (plus zero_form a f) b g) ≡ true
  pub none : sum_terms f a g b ≡ []
  pub below : ((pos 0 +ℤ a *ℤ f.k) +ℤ b *ℤ g.k) <ℤ pos 0

contradiction_then : (o : Option Form) (k : Form → Option Form) → is_contradiction (option_and_then k o) ≡ true → (h : Form) × (o ≡ Some h) × (is_contradiction (k h) ≡ true)
contradiction_then None k h = absurd (false≢true h)
contradiction_then (Some f) k h = (f, refl, h)

cond_is : {A : Type 0} (b : Bool) (x : Option A) (y : A) → cond b x None ≡ Some y → (b ≡ true) × (x ≡ Some y)
cond_is true x y h = (refl, h)
cond_is false x y h = absurd (cc)

-- a sum of a positive multiple, if it is made
added_is : (f g h : Form) (m : ℤ) → checked_plus f m g ≡ Some h → (pos 0 <ℤ m) × (form_fits (plus f m g) ≡ true) × (plus f m g ≡ h)
added_is f g h m is =
    let c = cond_is (lt_z (pos 0) m) (checked_form (plus f m g)) h is in
    let d = cond_some (form_fits (plus f m g)) (plus f m g) h c.1 in
    (omega (arith, ints, c.0), d.0, d.1)

added_by : (f g : Form) (m : ℤ) → pos 0 <ℤ m → form_fits (plus f m g) ≡ true → checked_plus f m g ≡ Some (plus f m g)
added_by f g m some fits = let positive : lt_z (pos 0) m ≡ true = grind (arith, ints) in rw (positive, fits) refl

no_length : (ts : Terms) → (length ts == 0) ≡ true → ts ≡ []
no_length [] h = refl
no_length (t ∷ ts) h = absurd (grind (arith, nat_tests))

pub parts_of : (f g : Form) (a b : ℤ) → closes f g a b ≡ true → Parts f g a b
parts_of f g a b h =
    let outer = and_parts (in_i128 a && in_i128 b) (is_contradiction (sum_of_two f a g b)) h in
    let fits = and_parts (in_i128 a) (in_i128 b) outer.0 in
    let one = contradiction_then (checked_plus zero_form a f) (λ sum. sum_from (f ∷ g ∷ []) sum ((b, 1) ∷ [])) outer.1 in
    let two = contradiction_then (checked_plus one.0 b g) (λ sum. Some sum) one.2 in
    let once = added_is zero_form f one.0 a one.1 in
    let second = subst (λ e. checked_plus e b g ≡ Some two.0) (sym once.2) two.1 in
    let twice = added_is (plus zero_form a f) g two.0 b second in
    let closed = subst (λ e. is_contradiction (Some e) ≡ true) (sym twice.2) two.2 in
    let ends = and_parts (length (sum_terms f a g b) == 0) (lt_z ((pos 0 +ℤ a *ℤ f.k) +ℤ b *ℤ g.k) (pos 0)) closed in
    record {
      a_fits = fits.0;
      b_fits = fits.1;
      first = once.0;
      second = twice.0;
      once = once.1;
      twice = twice.1;
      none = no_length (sum_terms f a g b) ends.0;
      below = omega (arith, ints, ends.1);
    }

pub closes_by : (f g : Form) (a b : ℤ) → Parts f g a b → closes f g a b ≡ true
closes_by f g a b p =
    let below : lt_z ((pos 0 +ℤ a *ℤ f.k) +ℤ b *ℤ g.k) (pos 0) ≡ true = grind (arith, ints, p.below) in
    rw (p.a_fits, p.b_fits, added_by zero_form f a p.first p.once, added_by (plus zero_form a f) g b p.second p.twice, p.none, below) refl

-- ---- positive factors

positive_product : (b z : ℤ) → pos 0 <ℤ b → b *ℤ z ≡ pos 0 → z ≡ pos 0
positive_product (pos zero) z some h = absurd (omega (arith, ints, some))
positive_product (pos (suc n)) (pos zero) some h = refl
positive_product (pos (suc n)) (pos (suc m)) some h = absurd (omega (arith, ints, h))
positive_product (pos (suc n)) (negsuc m) some h = absurd (omega (arith, ints, h))
positive_product (negsuc n) z some h = absurd (omega (arith, ints, some))

-- a multiple of a number is as far from 0 as the number, or farther
stretched : (t z : ℤ) → pos 0 <ℤ t → (pos 0 ≤ℤ z → z ≤ℤ (t *ℤ z)) × (z <ℤ pos 0 → (t *ℤ z) ≤ℤ z)
stretched (pos zero) z some = absurd (omega (arith, ints, some))
stretched (pos (suc n)) (pos m) some = (λ h. omega (arith, ints), λ h. absurd (omega (arith, ints, h)))
stretched (pos (suc n)) (negsuc m) some = (λ h. absurd (omega (arith, ints, h)), λ h. omega (arith, ints))
stretched (negsuc n) z some = absurd (omega (arith, ints, some))

within : (z : ℤ) → in_i128 z ≡ true → (z <ℤ pos (2 ^ 127)) × (negsuc (2 ^ 127) <ℤ z)
within (pos n) h = let lt : n < 2 ^ 127 = grind (arith, nat_tests) in (omega (arith, ints, lt), omega (arith, ints))
within (negsuc n) h = let lt : n < 2 ^ 127 = grind (arith, nat_tests) in (omega (arith, ints), omega (arith, ints, lt))

within_by : (z : ℤ) → z <ℤ pos (2 ^ 127) → negsuc (2 ^ 127) <ℤ z → in_i128 z ≡ true
within_by (pos n) h k = let lt : n < 2 ^ 127 = omega (arith, ints, h) in grind (arith, nat_tests)
within_by (negsuc n) h k = let lt : n < 2 ^ 127 = omega (arith, ints, k) in grind (arith, nat_tests)

pub shrunk : (t z : ℤ) → pos 0 <ℤ t → in_i128 (t *ℤ z) ≡ true → in_i128 z ≡ true
shrunk t z some fits =
    let far = within (t *ℤ z) fits in
    let by = stretched t z some in
    elim (cases_sign z) [
      | inl below ↦ within_by z (omega (arith, ints, below)) (omega (arith, ints, far.1, by.1 below))
      | inr above ↦ within_by z (omega (arith, ints, far.0, by.0 above)) (omega (arith, ints, above))
    ]
  where
    cases_sign : (z : ℤ) → (z <ℤ pos 0) ⊎ (pos 0 ≤ℤ z)
    cases_sign (pos n) = inr (omega (arith, ints))
    cases_sign (negsuc n) = inl (omega (arith, ints))

below_by : (t z : ℤ) → pos 0 <ℤ t → (t *ℤ z) <ℤ pos 0 → z <ℤ pos 0
below_by t (pos n) some h = absurd (omega (arith, ints, h, times_above t (pos n) some (omega (arith, ints))))
below_by t (negsuc n) some h = omega (arith, ints)

-- ---- terms by their values

-- 1 for the variable x, 0 for each other
abbrev pub unit : ℕ → ℕ → ℤ
unit x n = if n == x then pos 1 else pos 0

unit_same : (x : ℕ) → unit x x ≡ pos 1
unit_same x = grind (arith, nat_tests)

unit_other : (x n : ℕ) → x < n → unit x n ≡ pos 0
unit_other x n lt = grind (arith, nat_tests)

unit_above : (x : ℕ) (ts : Terms) → IsAbove x ts → terms_value ts (unit x) ≡ pos 0
unit_above x [] above = refl
unit_above x (t ∷ ts) above = omega (arith, ints, ap (λ z. t.1 *ℤ z) (unit_other x t.0 above.0), unit_above x ts above.1)

unit_first : (t : ℕ × ℤ) (ts : Terms) → IsAbove t.0 ts → terms_value (t ∷ ts) (unit t.0) ≡ t.1
unit_first t ts above = omega (arith, ints, ap (λ z. t.1 *ℤ z) (unit_same t.0), unit_above t.0 ts above)

pub no_terms : (ts : Terms) → IsCanonical ts → ((v : ℕ → ℤ) → terms_value ts v ≡ pos 0) → ts ≡ []
no_terms [] h zero_everywhere = refl
no_terms (t ∷ ts) h zero_everywhere = absurd (h.1 (sym (unit_first t ts h.0) ∙ zero_everywhere (unit t.0)))

scaled_fit : (t m : ℤ) (ts : Terms) → pos 0 <ℤ t → pos 0 <ℤ m → IsCanonical ts → terms_fit (plus_terms [] (t *ℤ m) ts) ≡ true → terms_fit (plus_terms [] m ts) ≡ true
scaled_fit t m [] some more h fits = refl
scaled_fit t m (u ∷ us) some more h fits =
    let far = scaled (t *ℤ m) u us (product_above t m some more) h in
    let near = scaled m u us more h in
    let parts = and_parts (in_i128 ((t *ℤ m) *ℤ u.1)) (terms_fit (plus_terms [] (t *ℤ m) us)) (subst (λ ts. terms_fit ts ≡ true) far fits) in
    let first : in_i128 (m *ℤ u.1) ≡ true = shrunk t (m *ℤ u.1) some (subst (λ z. in_i128 z ≡ true) (associate t m u.1) parts.0) in
    let rest = scaled_fit t m us some more h.2 parts.1 in
    rw (near, first, rest) refl
  where
    product_above : (t m : ℤ) → pos 0 <ℤ t → pos 0 <ℤ m → pos 0 <ℤ (t *ℤ m)
    product_above t m some more = omega (arith, ints, more, (stretched t m some).0 (omega (arith, ints, more)))

    scaled : (m : ℤ) (u : ℕ × ℤ) (us : Terms) → pos 0 <ℤ m → IsCanonical (u ∷ us) → plus_terms [] m (u ∷ us) ≡ (u.0, m *ℤ u.1) ∷ plus_terms [] m us
    scaled m u us more h =
        let nonzero : (m *ℤ u.1) ≢ pos 0 = λ none. h.1 (positive_product m u.1 more none) in
        front_right [] m u us h tt ∙ put_nonzero u.0 (m *ℤ u.1) (plus_terms [] m us) nonzero

-- ---- two forms

module _ (f g : Form) (f_canonical : IsCanonical f.terms) (g_canonical : IsCanonical g.terms) (f_open : is_contradiction (Some f) ≡ false) (g_open : is_contradiction (Some g) ≡ false) where
  values : (a b : ℤ) (v : ℕ → ℤ) → terms_value (sum_terms f a g b) v ≡ a *ℤ terms_value f.terms v +ℤ b *ℤ terms_value g.terms v
  values a b v = omega (arith, ints, terms_value-plus_terms (plus_terms [] a f.terms) b g.terms v, terms_value-plus_terms [] a f.terms v)

  balanced : (a b : ℤ) → Parts f g a b → (v : ℕ → ℤ) → a *ℤ terms_value f.terms v +ℤ b *ℤ terms_value g.terms v ≡ pos 0
  balanced a b p v = sym (values a b v) ∙ ap (λ ts. terms_value ts v) p.none

  not_closed : (a b : ℤ) → (Parts f g a b → ⊥) → closes f g a b ≡ false
  not_closed a b h = elim (bool_cases (closes f g a b)) [ inl closed ↦ absurd (h (parts_of f g a b closed)) | inr not ↦ not ]
    where
      bool_cases : (x : Bool) → (x ≡ true) ⊎ (x ≡ false)
      bool_cases true = inl refl
      bool_cases false = inr refl

  at_least : (h : Form) → is_contradiction (Some h) ≡ false → h.terms ≡ [] → pos 0 ≤ℤ h.k
  at_least h is_open none = grind (arith, ints, subst (λ ts. ((length ts == 0) && lt_z h.k (pos 0)) ≡ false) none is_open)

  both_empty : (a b : ℤ) → Parts f g a b → f.terms ≡ [] → g.terms ≡ [] → ⊥
  both_empty a b p f_none g_none =
      omega (arith, ints, p.below, times_above a f.k p.first (at_least f f_open f_none), times_above b g.k p.second (at_least g g_open g_none))

  pub first_empty : f.terms ≡ [] → (a b : ℤ) → closes f g a b ≡ false
  first_empty none a b = not_closed a b (λ p. both_empty a b p none (no_terms g.terms g_canonical (λ v.
      positive_product b (terms_value g.terms v) p.second (omega (arith, ints, balanced a b p v, ap (λ ts. a *ℤ terms_value ts v) none)))))

  pub second_empty : g.terms ≡ [] → (a b : ℤ) → closes f g a b ≡ false
  second_empty none a b = not_closed a b (λ p. both_empty a b p (no_terms f.terms f_canonical (λ v.
      positive_product a (terms_value f.terms v) p.first (omega (arith, ints, balanced a b p v, ap (λ ts. b *ℤ terms_value ts v) none)))) none)

  module _ (t u : ℕ × ℤ) (ts us : Terms) (f_is : f.terms ≡ t ∷ ts) (g_is : g.terms ≡ u ∷ us) where
    f_parts : IsAbove t.0 ts × (t.1 ≢ pos 0) × IsCanonical ts
    f_parts = subst IsCanonical f_is f_canonical

    g_parts : IsAbove u.0 us × (u.1 ≢ pos 0) × IsCanonical us
    g_parts = subst IsCanonical g_is g_canonical

    pub f_nonzero : t.1 ≢ pos 0
    f_nonzero = f_parts.1

    pub g_nonzero : u.1 ≢ pos 0
    g_nonzero = g_parts.1

    pub apart : (t.0 ≡ u.0 → ⊥) → (a b : ℤ) → closes f g a b ≡ false
    apart differ a b = not_closed a b (λ p.
        elim (cases_lt t.0 u.0) [
          | inl lt ↦ f_parts.1 (positive_product a t.1 p.first (omega (
            arith,
            ints,
            balanced a b p (unit t.0),
            ap (λ ts. a *ℤ terms_value ts (unit t.0)) f_is,
            ap (λ z. a *ℤ z) (unit_first t ts f_parts.0),
            ap (λ ts. b *ℤ terms_value ts (unit t.0)) g_is,
            ap (λ z. b *ℤ z) (unit_above t.0 (u ∷ us) (lt, above_lower t.0 u.0 us lt g_parts.0)),
          )))
          | inr le ↦
              let gt : u.0 < t.0 = omega (arith, differ) in
              g_parts.1 (positive_product b u.1 p.second (omega (
                arith,
                ints,
                balanced a b p (unit u.0),
                ap (λ ts. a *ℤ terms_value ts (unit u.0)) f_is,
                ap (λ z. a *ℤ z) (unit_above u.0 (t ∷ ts) (gt, above_lower u.0 t.0 ts gt f_parts.0)),
                ap (λ ts. b *ℤ terms_value ts (unit u.0)) g_is,
                ap (λ z. b *ℤ z) (unit_first u us g_parts.0),
              )))
        ])

    cancels : t.0 ≡ u.0 → (a b : ℤ) → Parts f g a b → Cancels t.1 u.1 a b
    cancels same a b p = record {
      first = p.first;
      second = p.second;
      sum = omega (
        arith,
        ints,
        balanced a b p (unit t.0),
        ap (λ ts. a *ℤ terms_value ts (unit t.0)) f_is,
        ap (λ z. a *ℤ z) (unit_first t ts f_parts.0),
        ap (λ ts. b *ℤ terms_value ts (unit t.0)) g_is,
        ap (λ z. b *ℤ z) (ap (λ x. terms_value (u ∷ us) (unit x)) same ∙ unit_first u us g_parts.0),
      );
    }

    pub none_close : t.0 ≡ u.0 → NoneCancel t.1 u.1 → (a b : ℤ) → closes f g a b ≡ false
    none_close same none a b = not_closed a b (λ p. none a b p.a_fits p.b_fits (cancels same a b p))

    least_parts : (m : Multiples) (n a b : ℤ) → pos 0 <ℤ n → a ≡ n *ℤ m.first → b ≡ n *ℤ m.second → pos 0 <ℤ m.first → pos 0 <ℤ m.second → Parts f g a b → Parts f g m.first m.second
    least_parts m n a b some a_is b_is first second p =
        let p' = subst (λ z. Parts f g z (n *ℤ m.second)) a_is (subst (λ z. Parts f g a z) b_is p) in
        let once = and_parts (in_i128 (pos 0 +ℤ (n *ℤ m.first) *ℤ f.k)) (terms_fit (plus_terms [] (n *ℤ m.first) f.terms)) p'.once in
        let twice = and_parts (in_i128 ((pos 0 +ℤ (n *ℤ m.first) *ℤ f.k) +ℤ (n *ℤ m.second) *ℤ g.k)) (terms_fit (sum_terms f (n *ℤ m.first) g (n *ℤ m.second))) p'.twice in
        let f_k : pos 0 +ℤ (n *ℤ m.first) *ℤ f.k ≡ n *ℤ (pos 0 +ℤ m.first *ℤ f.k) = omega (arith, ints, associate n m.first f.k, distribute_left n (pos 0) (m.first *ℤ f.k)) in
        let sum = (pos 0 +ℤ m.first *ℤ f.k) +ℤ m.second *ℤ g.k in
        let sum_k : (pos 0 +ℤ (n *ℤ m.first) *ℤ f.k) +ℤ (n *ℤ m.second) *ℤ g.k ≡ n *ℤ sum = omega (arith, ints, f_k, associate n m.second g.k, distribute_left n (pos 0 +ℤ m.first *ℤ f.k) (m.second *ℤ g.k)) in
        let none : sum_terms f m.first g m.second ≡ [] = no_terms (sum_terms f m.first g m.second)
        (IsCanonical-plus_terms (plus_terms [] m.first f.terms) m.second g.terms (IsCanonical-plus_terms [] m.first f.terms tt))
        (λ v. positive_product n (terms_value (sum_terms f m.first g m.second) v) some
        (ap (λ z. n *ℤ z) (values m.first m.second v) ∙ scaled_sum n m.first m.second (terms_value f.terms v) (terms_value g.terms v) ∙ balanced (n *ℤ m.first) (n *ℤ m.second) p' v)) in
        let once_k : in_i128 (pos 0 +ℤ m.first *ℤ f.k) ≡ true = shrunk n (pos 0 +ℤ m.first *ℤ f.k) some (subst (λ z. in_i128 z ≡ true) f_k once.0) in
        let once_terms : terms_fit (plus_terms [] m.first f.terms) ≡ true = scaled_fit n m.first f.terms some first f_canonical once.1 in
        let twice_k : in_i128 sum ≡ true = shrunk n sum some (subst (λ z. in_i128 z ≡ true) sum_k twice.0) in
        record {
          a_fits = shrunk n m.first some p'.a_fits;
          b_fits = shrunk n m.second some p'.b_fits;
          first = first;
          second = second;
          once = rw (once_k, once_terms) refl;
          twice = rw (twice_k, none) refl;
          none = none;
          below = below_by n sum some (subst (λ z. z <ℤ pos 0) sum_k p'.below);
        }
      where
        scaled_sum : (n a b x y : ℤ) → n *ℤ (a *ℤ x +ℤ b *ℤ y) ≡ (n *ℤ a) *ℤ x +ℤ (n *ℤ b) *ℤ y
        scaled_sum n a b x y = omega (arith, ints, distribute_left n (a *ℤ x) (b *ℤ y), associate n a x, associate n b y)

    pub IsBest-least : (m : Multiples) → t.0 ≡ u.0 → IsLeast t.1 u.1 m → IsBest f g m
    IsBest-least m same h = record {
      first = h.cancels.first;
      second = h.cancels.second;
      best = λ a b closed.
          let p = parts_of f g a b closed in
          let n = h.least a b (cancels same a b p) in
          closes_by f g m.first m.second (least_parts m n.0 a b n.1 n.2 n.3 h.cancels.first h.cancels.second p);
    }

    pub told : (o : Option Multiples) → t.0 ≡ u.0 → MatchOption o (NoneCancel t.1 u.1) (IsLeast t.1 u.1) → MatchOption o ((a b : ℤ) → closes f g a b ≡ false) (IsBest f g)
    told None same none = none_close same none
    told (Some m) same least = IsBest-least m same least

-- ---- a first term, if there is one

pub first_is : (ts : Terms) → MatchOption (slice_get ts 0) (ts ≡ []) (IsFirst ts)
first_is [] = refl
first_is (t ∷ ts) = (ts, refl)
