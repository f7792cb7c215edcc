-- Which defs are well shaped.
use Rattle.std.proofs.Common.{◌≡◌, ◌≢◌, ℕ, ◌<◌, ◌==◌, ℤ, pos, ◌≤ℤ◌, ◌<ℤ◌, Bool, true, false, nat_lt, [], ◌∷◌, length, inl, inr, refl, sym, ap, arith, IsTrue, not, ◌&&◌, ◌||◌}
use Rattle.std.specs.Prelude.{◌↔◌}
use Rattle.std.specs.Bool.{Decides}
use Rattle.std.specs.Ordering.{int_eq}
use Rattle.std.specs.List.{All, list_all}
use Rattle.std.specs.Int.Signed.{lt_z}
use Rattle.std.specs.Cmp.Lexicographic.{pointwise}
use Rattle.std.proofs.lemmas.Int.{ints}
use Rattle.std.proofs.lemmas.Bool.Decides.{nat_tests, Decides-and, Decides-not, Decides-by_and, Decides-eqb, Decides-int_eq}
use Rattle.std.proofs.lemmas.Slice.Eq.{slice_eq-Decides}
use Rattle.viz_base.specs.declared.worlds.Rect.{Rect}
use Rattle.lin_proof.specs.Form.{Form, Terms}
use Rattle.lin_proof.specs.Derivations.{are_declared}
use Rattle.cert_semantics.specs.Paths.{Step, def, first, second, lemma, Path, root, ◌▸◌, HasStep, variables, is_declared}
use Rattle.cert_semantics.specs.Nodes.{names}
use Rattle.cert_semantics.specs.Shapes.{has_variable, is_remainder, has_remainders, same_row, is_named, is_shaped}
use Rattle.cert_semantics.specs.Laws.{IsRemainder, IsFitDef}

decides_below : (n d : ℤ) → Decides (lt_z n d) (n <ℤ d)
decides_below n d = (λ e. omega (arith, ints, e), λ less. by_test (lt_z n d) refl less)
  where
    by_test : (b : Bool) → lt_z n d ≡ b → n <ℤ d → b ≡ true
    by_test true e less = refl
    by_test false e less = absurd (omega (arith, ints, e, less))

pub decides_remainder : (d n : ℤ) → Decides (is_remainder d n) (IsRemainder d n)
decides_remainder d n =
    let both = Decides-and (not (lt_z n (pos 0))) (lt_z n d) (Decides-not (lt_z n (pos 0)) (decides_below n (pos 0))) (decides_below n d) in (
      λ e. let h = both.0 e in (at_least h.0, h.1),
      λ h. both.1 (λ below. absurd (omega (arith, ints, h.0, below)), h.1),
    )
  where
    at_least : ¬ (n <ℤ pos 0) → pos 0 ≤ℤ n
    at_least above = by_test (lt_z n (pos 0)) refl
      where
        by_test : (b : Bool) → lt_z n (pos 0) ≡ b → pos 0 ≤ℤ n
        by_test true e = absurd (above ((decides_below n (pos 0)).0 e))
        by_test false e = omega (arith, ints, e)

decides_some : (ts : Terms) → Decides (nat_lt 0 (length ts)) (ts ≢ [])
decides_some [] = (λ e. absurd (cc), λ some. absurd (some refl))
decides_some (t ∷ ts) = (λ e same. absurd (cc), λ some. grind (arith, nat_tests))

decides_declared : (n : ℕ) (ts : Terms) → Decides (are_declared n ts) (All (λ t. t.0 < n) ts)
decides_declared n = Decides-by_and (λ t. nat_lt t.0 n) (λ t. t.0 < n) (are_declared n) (λ t. (λ e. grind (arith, nat_tests), λ less. grind (arith, nat_tests))) refl (λ t ts. refl)

decides_remainders : (d : ℤ) (ts : Terms) → Decides (list_all (λ t. is_remainder d t.1) ts) (All (λ t. IsRemainder d t.1) ts)
decides_remainders d = Decides-by_and (λ t. is_remainder d t.1) (λ t. IsRemainder d t.1) (list_all (λ t. is_remainder d t.1)) (λ t. decides_remainder d t.1) refl (λ t ts. refl)

-- ---- the same def

abbrev same_term : ℕ × ℤ → ℕ × ℤ → Bool
same_term t u = t.0 == u.0 && int_eq t.1 u.1

decides_same_term : (t u : ℕ × ℤ) → Decides (same_term t u) (t ≡ u)
decides_same_term t u =
    let both = Decides-and (t.0 == u.0) (int_eq t.1 u.1) (Decides-eqb t.0 u.0) (Decides-int_eq t.1 u.1) in
    (λ e. let h = both.0 e in λ i. (h.0 i, h.1 i), λ same. both.1 (ap (λ (x : ℕ × ℤ). x.0) same, ap (λ (x : ℕ × ℤ). x.1) same))

pub decides_same_row : (f g : Form) → Decides (same_row f g) (f ≡ g)
decides_same_row f g =
    let both = Decides-and (int_eq f.k g.k) (pointwise same_term f.terms g.terms) (Decides-int_eq f.k g.k) (slice_eq-Decides decides_same_term f.terms g.terms (pointwise same_term f.terms g.terms) refl) in
    (λ e. let h = both.0 e in λ i. record { k = h.0 i; terms = h.1 i }, λ same. both.1 (ap (λ (x : Form). x.k) same, ap (λ (x : Form). x.terms) same))

row_in : Form → Step → Form
row_in none (def row d) = row
row_in none (first row) = none
row_in none (second row) = none
row_in none (lemma row) = none

number_in : ℤ → Step → ℤ
number_in none (def row d) = d
number_in none (first row) = none
number_in none (second row) = none
number_in none (lemma row) = none

decides_same_def : (row f : Form) (d e : ℤ) → Decides (same_row row f && int_eq d e) (def f e ≡ def row d)
unfolding row_in number_in
decides_same_def row f d e =
    let both = Decides-and (same_row row f) (int_eq d e) (decides_same_row row f) (Decides-int_eq d e) in (
      λ t. let h = both.0 t in λ i. def (sym h.0 i) (sym h.1 i),
      λ same. both.1 (sym (ap (row_in f) same), sym (ap (number_in e) same)),
    )

-- behind a step that is another
further : (row : Form) (d : ℤ) (step : Step) (outer : Path) → (step ≡ def row d → ⊥) → HasStep (def row d) (step ▸ outer) → HasStep (def row d) outer
further row d step outer other (inl is) = absurd (other is)
further row d step outer other (inr has) = has

beyond : (row : Form) (d : ℤ) (step : Step) (outer : Path) → (step ≡ def row d → ⊥) → Decides (is_named row d outer) (HasStep (def row d) outer) → Decides (is_named row d outer) (HasStep (def row d) (step ▸ outer))
beyond row d step outer other rest = (λ t. inr (rest.0 t), λ has. rest.1 (further row d step outer other has))

decides_named : (row : Form) (d : ℤ) (path : Path) → Decides (is_named row d path) (HasStep (def row d) path)
decides_named row d (root form) = (λ e. absurd (cc), λ has. absurd has)
decides_named row d (def f e ▸ outer) = by_test (same_row row f && int_eq d e) (decides_same_def row f d e) (decides_named row d outer)
  where
    by_test : (b : Bool) → Decides b (def f e ≡ def row d) → Decides (is_named row d outer) (HasStep (def row d) outer) → Decides (b || is_named row d outer) (HasStep (def row d) (def f e ▸ outer))
    by_test true same rest = (λ t. inl (same.0 refl), λ has. refl)
    by_test false same rest = beyond row d (def f e) outer (λ is. absurd (cc (same.1 is))) rest
decides_named row d (first f ▸ outer) = beyond row d (first f) outer (λ is. absurd (cc (is))) (decides_named row d outer)
decides_named row d (second f ▸ outer) = beyond row d (second f) outer (λ is. absurd (cc (is))) (decides_named row d outer)
decides_named row d (lemma f ▸ outer) = beyond row d (lemma f) outer (λ is. absurd (cc (is))) (decides_named row d outer)

-- ---- defs

pub shaped_defs_are_fit : (range : Rect) (path : Path) (row : Form) (d : ℤ) → IsTrue (is_shaped range path (names row d)) ↔ IsFitDef path row d
shaped_defs_are_fit range path row d =
    let a = Decides-and (is_declared path row) (has_variable row) (decides_declared (variables path) row.terms) (decides_some row.terms) in
    let b = Decides-and (is_declared path row && has_variable row) (lt_z (pos 1) d) a (decides_below (pos 1) d) in
    let r = Decides-and (is_remainder d row.k) (list_all (λ t. is_remainder d t.1) row.terms) (decides_remainder d row.k) (decides_remainders d row.terms) in
    let c = Decides-and (is_declared path row && has_variable row && lt_z (pos 1) d) (has_remainders d row) b r in
    let all = Decides-and (is_declared path row && has_variable row && lt_z (pos 1) d && has_remainders d row) (not (is_named row d path)) c (Decides-not (is_named row d path) (decides_named row d path)) in (
      λ shaped. let h = all.0 shaped in record {
        declared = h.0.0.0.0;
        some = h.0.0.0.1;
        number = h.0.0.1;
        constant = h.0.1.0;
        coefficients = h.0.1.1;
        new = h.1;
      },
      λ fit. all.1 ((((fit.declared, fit.some), fit.number), (fit.constant, fit.coefficients)), fit.new),
    )
