-- What the loop over the numbers has tried, and what the selectors from there on give behind it.
use Rattle.std.proofs.Common.{◌≡◌, ℕ, ◌+◌, ◌<◌, ◌≤◌, zero, suc, List, [], ◌∷◌, length, drop, slice_get, Option, Some, None, refl, sym, ◌∙◌, ap, subst, arith}
use Rattle.std.proofs.lemmas.List.{drop_all}
use Rattle.std.specs.Prelude.{slice_index}
use Rattle.std.specs.List.{Contains}
use Rattle.std.specs.List.Sorted.{IsStrictlyIncreasing}
use Rattle.viz_base.specs.declared.nodes.Node.{Node}
use Rattle.viz_base.proofs.ListLemmas.{rises_from, rises_lower}
use Rattle.viz_base.specs.Orders.{Rises}
use Rattle.css_semantics.specs.CascadeOrder.{Applied}
use Rattle.css_semantics.specs.Matching.{Match}
use Rattle.css_cascade.specs.declared.trimming.Trimmed.{Trimmed}
use Rattle.css_cascade.specs.declared.trying.Found.{Found}
use Rattle.css_cascade.specs.steps.Buckets.{Numbered}
use Rattle.css_cascade.specs.steps.Trying.{AreTried, Behind, IsTried, Matched}

-- ---- numbers that rise

up_further : (x : ℕ) (xs : List ℕ) (k : ℕ) → slice_index (x ∷ xs) (suc k) < slice_index (x ∷ xs) (suc k + 1) → slice_index xs k < slice_index xs (k + 1)
up_further x xs k h = let e : suc k + 1 ≡ suc (k + 1) = omega arith in subst (λ m. slice_index xs k < slice_index (x ∷ xs) m) e h

pub rises : (low : ℕ) (xs : List ℕ) → (0 < length xs → low ≤ slice_index xs 0) → IsStrictlyIncreasing xs → Rises low xs
rises low [] first up = tt
rises low (x ∷ xs) first up =
    (first (omega arith), rises (suc x) xs (λ some. let h = up 0 (omega (arith, some)) in omega (arith, h)) (λ k l. up_further x xs k (up (suc k) (omega (arith, l)))))

in_tail : (x y : ℕ) (xs : List ℕ) → (x ≡ y → ⊥) → Contains (x ∷ xs) y → Contains xs y
in_tail x y xs other (zero, l, e) = absurd (other e)
in_tail x y xs other (suc k, l, e) = (k, omega (arith, l), e)

-- ---- selectors that no number names

abbrev NoneMatches : List Node → ℕ → List Numbered → ℕ → ℕ → Type 0
NoneMatches nodes n selectors low high = (at : ℕ) (r : Numbered) → low ≤ at → at < high → slice_get selectors at ≡ Some r → Match r.1.selector.parts nodes n → ⊥

missed : (nodes : List Node) (n : ℕ) (selectors : List Numbered) (low high : ℕ) (all : List Found) → low ≤ high → NoneMatches nodes n selectors low high → Matched nodes n (drop high selectors) all → Matched nodes n (drop low selectors) all
missed nodes n [] zero zero all l none m = m
missed nodes n [] zero (suc high) all l none m = m
missed nodes n [] (suc low) zero all l none m = m
missed nodes n [] (suc low) (suc high) all l none m = m
missed nodes n (r ∷ selectors) zero zero all l none m = m
missed nodes n (r ∷ selectors) zero (suc high) all l none m =
    Matched.passes_by (none zero r (omega arith) (omega arith) refl)
    (missed nodes n selectors zero high all (omega arith) (λ at s a b is. none (suc at) s (omega arith) (omega (arith, b)) is) m)
missed nodes n (r ∷ selectors) (suc low) zero all l none m = absurd (omega (arith, l))
missed nodes n (r ∷ selectors) (suc low) (suc high) all l none m =
    missed nodes n selectors low high all (omega (arith, l)) (λ at s a b is. none (suc at) s (omega (arith, a)) (omega (arith, b)) is) m

-- ---- the loop

pub record ReachedTry (nodes : List Node) (n : ℕ) (rulesets : List Trimmed) (selectors : List Numbered) (numbers : List ℕ) (k : ℕ) (start best : List (Option Applied)) (going : Option Found) : Type 0 where
  pub next : ℕ
  pub rise : Rises next (drop k numbers)
  pub named : (at : ℕ) (r : Numbered) → next ≤ at → slice_get selectors at ≡ Some r → Match r.1.selector.parts nodes n → Contains (drop k numbers) at
  pub goes : (behind : List Found) → Matched nodes n (drop next selectors) behind → (all : List Found) × Matched nodes n selectors all × (Behind rulesets best going behind ≡ Behind rulesets start None all)

one_at : (selectors : List Numbered) (x : ℕ) (r : Numbered) → slice_get selectors x ≡ Some r → drop x selectors ≡ r ∷ drop (suc x) selectors
one_at [] zero r is = absurd (cc)
one_at [] (suc x) r is = absurd (cc)
one_at (s ∷ selectors) zero r is = let same : s ≡ r = cc in ap (λ y. y ∷ selectors) same
one_at (s ∷ selectors) (suc x) r is = one_at selectors x r is

pub try_more : (nodes : List Node) (n : ℕ) (rulesets : List Trimmed) (selectors : List Numbered) (numbers : List ℕ) (k : ℕ) (start before after : List (Option Applied)) (going next : Option Found) (x : ℕ) (r : Numbered) → drop k numbers ≡ x ∷ drop (k + 1) numbers → slice_get selectors x ≡ Some r
    → ReachedTry nodes n rulesets selectors numbers k start before going → IsTried nodes n r (Behind rulesets before going) (Behind rulesets after next) → ReachedTry nodes n rulesets selectors numbers (k + 1) start after next
try_more nodes n rulesets selectors numbers k start before after going next x r numbered is reached tried =
    let rise = subst (Rises reached.next) numbered reached.rise in
    let named : (at : ℕ) (s : Numbered) → reached.next ≤ at → slice_get selectors at ≡ Some s → Match s.1.selector.parts nodes n → Contains (x ∷ drop (k + 1) numbers) at =
    λ at s l e m. subst (λ xs. Contains xs at) numbered (reached.named at s l e m) in
    record {
      next = suc x;
      rise = rise.1;
      named = λ at s l e m. in_tail x at (drop (k + 1) numbers) (λ same. let h : x ≡ at = same in omega (arith, h, l)) (named at s (omega (arith, l, rise.0)) e m);
      goes = λ behind m.
          let t = tried (drop (suc x) selectors) behind m in
          let here = subst (λ ss. Matched nodes n ss t.0) (sym (one_at selectors x r is)) t.1 in
          let g = reached.goes t.0 (missed nodes n selectors reached.next x t.0 rise.0 (λ at s l u e mm. let h = rises_from x (x ∷ drop (k + 1) numbers) at (omega arith, rise.1) (named at s l e mm) in omega (arith, h, u)) here) in
          (g.0, g.1, t.2 ∙ g.2);
    }

pub try_past : (nodes : List Node) (n : ℕ) (rulesets : List Trimmed) (selectors : List Numbered) (numbers : List ℕ) (k : ℕ) (start best : List (Option Applied)) (going : Option Found) (x : ℕ) → drop k numbers ≡ x ∷ drop (k + 1) numbers → slice_get selectors x ≡ None
    → ReachedTry nodes n rulesets selectors numbers k start best going → ReachedTry nodes n rulesets selectors numbers (k + 1) start best going
try_past nodes n rulesets selectors numbers k start best going x numbered is reached =
    let rise = subst (Rises reached.next) numbered reached.rise in
    record {
      next = reached.next;
      rise = rises_lower reached.next (suc x) (drop (k + 1) numbers) (omega (arith, rise.0)) rise.1;
      named = λ at s l e m. in_tail x at (drop (k + 1) numbers) (λ same. let h : None ≡ Some s = sym is ∙ ap (slice_get selectors) same ∙ e in cc) (subst (λ xs. Contains xs at) numbered (reached.named at s l e m));
      goes = reached.goes;
    }

pub try_end : (nodes : List Node) (n : ℕ) (rulesets : List Trimmed) (selectors : List Numbered) (numbers : List ℕ) (k : ℕ) (start best after : List (Option Applied)) (going : Option Found) → length numbers ≤ k → ReachedTry nodes n rulesets selectors numbers k start best going → after ≡ Behind rulesets best going [] → AreTried nodes n rulesets selectors start after
try_end nodes n rulesets selectors numbers k start best after going past reached is =
    let high = reached.next + length selectors in
    let none = subst (λ ss. Matched nodes n ss []) (sym (drop_all high selectors (omega arith))) Matched.none in
    let left = missed nodes n selectors reached.next high [] (omega arith)
    (λ at s l u e m. let h = subst (λ xs. Contains xs at) (drop_all k numbers past) (reached.named at s l e m) in absurd (omega (arith, h.1))) none in
    let g = reached.goes [] left in
    (g.0, g.1, is ∙ g.2)
