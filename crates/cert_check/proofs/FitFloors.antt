-- The facts of a well shaped def have all their numbers in `i128`.
use Rattle.std.proofs.Common.{◌≡◌, ℕ, ◌<◌, ℤ, pos, negsuc, ◌+ℤ◌, ◌-ℤ◌, ◌*ℤ◌, ◌<ℤ◌, Bool, true, false, cond, ◌&&◌, nat_lt, [], ◌∷◌, refl, sym, subst, arith, FitsSigned}
use Rattle.std.specs.Int.{w128}
use Rattle.std.specs.Ordering.{int_eq}
use Rattle.std.specs.List.{list_all}
use Rattle.std.proofs.lemmas.Int.{ints}
use Rattle.std.proofs.lemmas.Bool.{and_parts}
use Rattle.std.proofs.lemmas.Bool.Decides.{nat_tests}
use Rattle.lin_proof.specs.Number.{in_i128}
use Rattle.lin_proof.specs.Form.{Form, Terms, IsCanonical, terms_fit, put, plus_term, plus_terms}
use Rattle.lin_proof.proofs.Opposites.{in_i128-fit}
use Rattle.lin_proof.proofs.Sums.{plus_term-cases, front_right}
use Rattle.lin_proof.specs.Derivations.{are_declared}
use Rattle.cert_semantics.specs.Shapes.{is_remainder, has_remainders}
use Rattle.cert_semantics.specs.Laws.{IsRemainder}
use Rattle.cert_semantics.proofs.FitDefs.{decides_remainder}
use Rattle.sym_calc.specs.Floors.{floor_fits}

put_fits : (x : ℕ) (c : ℤ) (ts : Terms) → in_i128 c ≡ true → terms_fit ts ≡ true → terms_fit (put x c ts) ≡ true
put_fits x c ts one rest = by_test (int_eq c (pos 0))
  where
    by_test : (b : Bool) → terms_fit (cond b ts ((x, c) ∷ ts)) ≡ true
    by_test true = rest
    by_test false = λ i. one i && rest i

-- ---- numbers from 0 to d less 1, d being in `i128`

module _ (d : ℤ) (fits : FitsSigned w128 d) (above : pos 0 <ℤ d) where
  rest_fits : (n : ℤ) → IsRemainder d n → in_i128 n ≡ true
  rest_fits n h =
      let low = h.0 in
      let high = h.1 in
      let within : FitsSigned w128 n = omega (arith, ints) in
      in_i128-fit n within

  opposite_fits : (n : ℤ) → IsRemainder d n → in_i128 (negsuc 0 *ℤ n) ≡ true
  opposite_fits n h =
      let low = h.0 in
      let high = h.1 in
      let within : FitsSigned w128 (negsuc 0 *ℤ n) = omega (arith, ints) in
      in_i128-fit (negsuc 0 *ℤ n) within

  whole_fits : in_i128 (negsuc 0 *ℤ d) ≡ true
  whole_fits = let within : FitsSigned w128 (negsuc 0 *ℤ d) = omega (arith, ints) in in_i128-fit (negsuc 0 *ℤ d) within

  less_fits : (n : ℤ) → IsRemainder d n → in_i128 (n +ℤ negsuc 0 *ℤ d) ≡ true
  less_fits n h =
      let low = h.0 in
      let high = h.1 in
      let within : FitsSigned w128 (n +ℤ negsuc 0 *ℤ d) = omega (arith, ints) in
      in_i128-fit (n +ℤ negsuc 0 *ℤ d) within

  -- each coefficient is one of them
  abbrev are_rests : Terms → Bool
  are_rests = list_all (λ t. is_remainder d t.1)

  rests_fit : (ts : Terms) → are_rests ts ≡ true → terms_fit ts ≡ true
  rests_fit [] h = refl
  rests_fit (t ∷ ts) h =
      let both = and_parts (is_remainder d t.1) (are_rests ts) h in
      let one = rest_fits t.1 ((decides_remainder d t.1).0 both.0) in
      let rest = rests_fit ts both.1 in
      λ i. one i && rest i

  lower_terms : (x : ℕ) (ts : Terms) → are_rests ts ≡ true → terms_fit (plus_term x (negsuc 0 *ℤ d) ts) ≡ true
  lower_terms x [] h = put_fits x (negsuc 0 *ℤ d) [] whole_fits refl
  lower_terms x (t ∷ ts) h =
      let both = and_parts (is_remainder d t.1) (are_rests ts) h in
      let is_rest = (decides_remainder d t.1).0 both.0 in
      let one = rest_fits t.1 is_rest in
      let rest = rests_fit ts both.1 in
      plus_term-cases (λ us. terms_fit us ≡ true) x (negsuc 0 *ℤ d) t ts
      (λ _. put_fits x (negsuc 0 *ℤ d) (t ∷ ts) whole_fits (λ i. one i && rest i))
      (λ _. put_fits x (t.1 +ℤ negsuc 0 *ℤ d) ts (less_fits t.1 is_rest) rest)
      (λ _. let more = lower_terms x ts both.1 in λ i. one i && more i)

  upper_terms : (x : ℕ) (ts : Terms) → IsCanonical ts → are_declared x ts ≡ true → are_rests ts ≡ true → terms_fit (plus_terms ((x, d) ∷ []) (negsuc 0) ts) ≡ true
  upper_terms x [] canonical declared h = let one = in_i128-fit d fits in λ i. one i && true
  upper_terms x (t ∷ ts) canonical declared h =
      let both = and_parts (is_remainder d t.1) (are_rests ts) h in
      let below = and_parts (nat_lt t.0 x) (are_declared x ts) declared in
      let first = below.0 in
      let less : t.0 < x = grind (arith, nat_tests) in
      subst (λ us. terms_fit us ≡ true) (sym (front_right ((x, d) ∷ []) (negsuc 0) t ts canonical (less, tt)))
      (put_fits t.0 (negsuc 0 *ℤ t.1) (plus_terms ((x, d) ∷ []) (negsuc 0) ts) (opposite_fits t.1 ((decides_remainder d t.1).0 both.0))
      (upper_terms x ts canonical.2 below.1 both.1))

  pub floor_is_fit : (x : ℕ) (row : Form) → IsCanonical row.terms → are_declared x row.terms ≡ true → has_remainders d row ≡ true
      → floor_fits x (record { row = row; by = d }) ≡ true
  floor_is_fit x row canonical declared h =
      let both = and_parts (is_remainder d row.k) (are_rests row.terms) h in
      let is_rest = (decides_remainder d row.k).0 both.0 in
      let low = is_rest.0 in
      let high = is_rest.1 in
      let first : FitsSigned w128 (row.k +ℤ negsuc 0 *ℤ pos 0) = omega (arith, ints) in
      let second : FitsSigned w128 (d -ℤ pos 1 +ℤ negsuc 0 *ℤ row.k) = omega (arith, ints) in
      let lower = in_i128-fit (row.k +ℤ negsuc 0 *ℤ pos 0) first in
      let upper = in_i128-fit (d -ℤ pos 1 +ℤ negsuc 0 *ℤ row.k) second in
      let lowers = lower_terms x row.terms both.1 in
      let uppers = upper_terms x row.terms canonical declared both.1 in
      λ i. (lower i && lowers i) && (upper i && uppers i)
