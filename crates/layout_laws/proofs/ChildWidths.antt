use Rattle.std.proofs.Common.{◌≡◌, ◌<◌, ℤ, pos, ◌+ℤ◌, List, [], ◌∷◌, ◌++◌, map, length, Contains, refl, sym, ◌∙◌, ap, subst, ◌⊎◌, inl, inr, append_assoc, ◌↔◌, arith, ⊎_elim}
use Rattle.std.proofs.lemmas.List.Elements.{Contains-append_left, Contains-append_right, Contains-append_cases}
use Rattle.std.proofs.lemmas.Int.{ints}
use Rattle.viz_base.proofs.ListLemmas.{later_member}
use Rattle.layout_semantics.specs.Lengths.{total}
use Rattle.layout_semantics.specs.Preferred.{Child, in_flow, floated, sums_from, leading_floats, block_widths}
use Rattle.layout_laws.specs.FloatRuns.{IsRunSum, IsChildWidth}
use Rattle.layout_laws.proofs.Members.{no_member, first_member, first_or_later, by_member}

-- ---- sums of beginnings

record IsBeginningSum (xs : List ℤ) (start sum : ℤ) : Type 0 where
  run : List ℤ
  rest : List ℤ
  some : 0 < length run
  whole : xs ≡ run ++ rest
  adds_up : sum ≡ start +ℤ total run

sums-are : (start : ℤ) (xs : List ℤ) (s : ℤ) → Contains (sums_from start xs) s → IsBeginningSum xs start s
sums-are start [] s i = no_member i
sums-are start (x ∷ xs) s i =
    by_member (λ z. IsBeginningSum (x ∷ xs) start z) (start +ℤ x) (sums_from (start +ℤ x) xs) s i
    (record { run = x ∷ []; rest = xs; some = omega arith; whole = refl; adds_up = omega (arith, ints) })
    (λ j.
    let b = sums-are (start +ℤ x) xs s j in
    let e = b.adds_up in
    record { run = x ∷ b.run; rest = b.rest; some = omega arith; whole = ap (λ l. x ∷ l) b.whole; adds_up = omega (arith, ints) })

sums-have : (start x : ℤ) (run rest : List ℤ) → Contains (sums_from start ((x ∷ run) ++ rest)) (start +ℤ total (x ∷ run))
sums-have start x [] rest = let e : start +ℤ x ≡ start +ℤ total (x ∷ []) = omega (arith, ints) in first_member (sums_from (start +ℤ x) rest) e
sums-have start x (y ∷ run) rest =
    let e : (start +ℤ x) +ℤ total (y ∷ run) ≡ start +ℤ total (x ∷ y ∷ run) = omega (arith, ints) in
    later_member (sums_from (start +ℤ x) ((y ∷ run) ++ rest)) (subst (λ s. Contains (sums_from (start +ℤ x) ((y ∷ run) ++ rest)) s) e (sums-have (start +ℤ x) y run rest))

-- ---- floats at the beginning

after_floats : List Child → List Child
after_floats (floated x ∷ children) = after_floats children
after_floats children = children

leading-whole : (children : List Child) → children ≡ map floated (leading_floats children) ++ after_floats children
unfolding after_floats
leading-whole [] = refl
leading-whole (in_flow x ∷ children) = refl
leading-whole (floated x ∷ children) = ap (λ l. floated x ∷ l) (leading-whole children)

leading-run : (run : List ℤ) (after : List Child) → leading_floats (map floated run ++ after) ≡ run ++ leading_floats after
leading-run [] after = refl
leading-run (x ∷ run) after = ap (λ l. x ∷ l) (leading-run run after)

map-append : (xs ys : List ℤ) → map floated (xs ++ ys) ≡ map floated xs ++ map floated ys
map-append [] ys = refl
map-append (x ∷ xs) ys = ap (λ l. floated x ∷ l) (map-append xs ys)

-- ---- both ways

later : (c : Child) (children : List Child) (s : ℤ) → (Contains children (in_flow s) ⊎ IsRunSum children s) → Contains (c ∷ children) (in_flow s) ⊎ IsRunSum (c ∷ children) s
later c children s (inl i) = inl (later_member _ i)
later c children s (inr r) = inr (record { before = c ∷ r.before; run = r.run; after = r.after; some = r.some; whole = ap (λ l. c ∷ l) r.whole; adds_up = r.adds_up })

first-run : (children : List Child) (s : ℤ) → IsBeginningSum (leading_floats children) (pos 0) s → IsRunSum children s
first-run children s b =
    let e = b.adds_up in
    record {
      before = [];
      run = b.run;
      after = map floated b.rest ++ after_floats children;
      some = b.some;
      whole = leading-whole children ∙ ap (λ l. map floated l ++ after_floats children) b.whole ∙ ap (λ l. l ++ after_floats children) (map-append b.run b.rest) ∙ append_assoc (map floated b.run) (map floated b.rest) (after_floats children);
      adds_up = omega (arith, ints);
    }

pub widths-are : (children : List Child) (s : ℤ) → Contains (block_widths children) s → Contains children (in_flow s) ⊎ IsRunSum children s
widths-are [] s i = no_member i
widths-are (in_flow x ∷ children) s i =
    by_member (λ z. Contains (in_flow x ∷ children) (in_flow z) ⊎ IsRunSum (in_flow x ∷ children) z) x (block_widths children) s i
    (inl (first_member _ refl))
    (λ j. later (in_flow x) children s (widths-are children s j))
widths-are (floated x ∷ children) s i = by (Contains-append_cases (sums_from (pos 0) (leading_floats (floated x ∷ children))) (block_widths children) s i) (λ j. widths-are children s j)
  where
    by : (Contains (sums_from (pos 0) (leading_floats (floated x ∷ children))) s ⊎ Contains (block_widths children) s) → (Contains (block_widths children) s → Contains children (in_flow s) ⊎ IsRunSum children s)
        → Contains (floated x ∷ children) (in_flow s) ⊎ IsRunSum (floated x ∷ children) s
    by (inl j) again = inr (first-run (floated x ∷ children) s (sums-are (pos 0) (leading_floats (floated x ∷ children)) s j))
    by (inr j) again = later (floated x) children s (again j)

pub from-flow : (children : List Child) (s : ℤ) → Contains children (in_flow s) → Contains (block_widths children) s
from-flow [] s i = no_member i
from-flow (in_flow x ∷ children) s i =
    ⊎_elim
    (λ e. first_member _ (same_flow e))
    (λ j. later_member _ (from-flow children s j))
    (first_or_later (in_flow x) children (in_flow s) i)
  where
    same_flow : in_flow x ≡ in_flow s → x ≡ s
    same_flow e = cc
from-flow (floated x ∷ children) s i =
    ⊎_elim
    (λ e. absurd (cc))
    (λ j. Contains-append_right (sums_from (pos 0) (leading_floats (floated x ∷ children))) (block_widths children) s (from-flow children s j))
    (first_or_later (floated x) children (in_flow s) i)

from-run : (before : List Child) (run : List ℤ) (after : List Child) → 0 < length run → Contains (block_widths (before ++ (map floated run ++ after))) (total run)
from-run [] [] after some = absurd (omega arith)
from-run [] (x ∷ run) after some =
    let zero_more : pos 0 +ℤ total (x ∷ run) ≡ total (x ∷ run) = omega (arith, ints) in
    Contains-append_left (sums_from (pos 0) (leading_floats (floated x ∷ (map floated run ++ after)))) (block_widths (map floated run ++ after)) (total (x ∷ run))
    (subst (λ l. Contains (sums_from (pos 0) (x ∷ l)) (total (x ∷ run))) (sym (leading-run run after))
    (subst (λ s. Contains (sums_from (pos 0) ((x ∷ run) ++ leading_floats after)) s) zero_more (sums-have (pos 0) x run (leading_floats after))))
from-run (in_flow x ∷ before) run after some = later_member _ (from-run before run after some)
from-run (floated x ∷ before) run after some = Contains-append_right (sums_from (pos 0) (leading_floats (floated x ∷ (before ++ (map floated run ++ after))))) (block_widths (before ++ (map floated run ++ after))) (total run) (from-run before run after some)

pub child-widths : (children : List Child) (s : ℤ) → Contains (block_widths children) s ↔ IsChildWidth children s
child-widths children s = ((λ c. widths-are children s c), (λ w. back w))
  where
    back : IsChildWidth children s → Contains (block_widths children) s
    back (inl c) = from-flow children s c
    back (inr r) = subst (λ z. Contains (block_widths children) z) (sym r.adds_up) (subst (λ l. Contains (block_widths l) (total r.run)) (sym r.whole) (from-run r.before r.run r.after r.some))
