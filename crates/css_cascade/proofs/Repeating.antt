-- A selector that repeats the last one of its ruleset adds nothing.
use Rattle.std.proofs.Common.{◌≡◌, ℕ, ◌==◌, ◌⊎◌, inl, inr, Bool, true, false, cond, List, [], ◌∷◌, ◌++◌, Some, None, refl, sym, ◌∙◌, ap, subst, append_assoc}
use Rattle.std.proofs.lemmas.List.{append-nil}
use Rattle.std.specs.Ordering.{is_gt}
use Rattle.viz_base.specs.declared.nodes.Node.{Node}
use Rattle.viz_base.specs.declared.selectors.Spec.{Spec}
use Rattle.viz_base.proofs.Truths.{same_number}
use Rattle.css_semantics.specs.declared.claims.Ranked.{Ranked}
use Rattle.css_semantics.specs.CascadeOrder.{later_of, spec_cmp}
use Rattle.css_semantics.specs.Matching.{Match}
use Rattle.css_cascade.specs.declared.trying.Found.{Found}
use Rattle.css_cascade.specs.steps.Buckets.{Numbered, RepeatsLast}
use Rattle.css_cascade.specs.steps.Trying.{Matched, StandFor, found, joined, strongest_behind}

-- ---- selectors in two parts

matched_append : (nodes : List Node) (n : ℕ) {xs ys : List Numbered} {fs gs : List Found} → Matched nodes n xs fs → Matched nodes n ys gs → Matched nodes n (xs ++ ys) (fs ++ gs)
matched_append nodes n Matched.none k = k
matched_append nodes n (Matched.matches h m) k = Matched.matches h (matched_append nodes n m k)
matched_append nodes n (Matched.passes_by h m) k = Matched.passes_by h (matched_append nodes n m k)

record InTwo (nodes : List Node) (n : ℕ) (xs ys : List Numbered) (all : List Found) : Type 0 where
  before : List Found
  after : List Found
  first : Matched nodes n xs before
  second : Matched nodes n ys after
  whole : all ≡ before ++ after

in_two : (nodes : List Node) (n : ℕ) (xs ys : List Numbered) (all : List Found) → Matched nodes n (xs ++ ys) all → InTwo nodes n xs ys all
in_two nodes n [] ys all m = record { before = []; after = all; first = Matched.none; second = m; whole = refl }
in_two nodes n (x ∷ xs) ys _ (Matched.matches h m) =
    let k = in_two nodes n xs ys _ m in
    record { before = found x ∷ k.before; after = k.after; first = Matched.matches h k.first; second = k.second; whole = ap (λ all. found x ∷ all) k.whole }
in_two nodes n (x ∷ xs) ys _ (Matched.passes_by h m) =
    let k = in_two nodes n xs ys _ m in
    record { before = k.before; after = k.after; first = Matched.passes_by h k.first; second = k.second; whole = k.whole }

one_matched : (nodes : List Node) (n : ℕ) (x : Numbered) (all : List Found) → Matched nodes n (x ∷ []) all → (Match x.1.selector.parts nodes n × (all ≡ found x ∷ [])) ⊎ ((Match x.1.selector.parts nodes n → ⊥) × (all ≡ []))
one_matched nodes n x _ (Matched.matches h Matched.none) = inl (h, refl)
one_matched nodes n x _ (Matched.passes_by h Matched.none) = inr (h, refl)

-- ---- what comes behind what was found

abbrev resumed : List Found → List Found → List Found
resumed [] more = strongest_behind None more
resumed (f ∷ []) more = strongest_behind (Some f) more
resumed (f ∷ g ∷ fs) more = f ∷ resumed (g ∷ fs) more

record IsSome (fs : List Found) : Type 0 where
  head : Found
  tail : List Found
  is : fs ≡ head ∷ tail

either_some : (b : Bool) (xs ys : List Found) → IsSome xs → IsSome ys → IsSome (cond b xs ys)
either_some true xs ys h k = h
either_some false xs ys h k = k

some_behind : (f : Found) (all : List Found) → IsSome (strongest_behind (Some f) all)
some_behind f [] = record { head = f; tail = []; is = refl }
some_behind f (g ∷ all) =
    either_some (f.rules == g.rules) (strongest_behind (Some (joined f g)) all) (f ∷ strongest_behind (Some g) all) (some_behind (joined f g) all)
    (record { head = f; tail = strongest_behind (Some g) all; is = refl })

resumed_more : (f : Found) (fs more : List Found) → IsSome fs → resumed (f ∷ fs) more ≡ f ∷ resumed fs more
resumed_more f fs more h = subst (λ gs. resumed (f ∷ gs) more ≡ f ∷ resumed gs more) (sym h.is) refl

either_resumed : (b : Bool) (xs ys us vs more : List Found) → xs ≡ resumed us more → ys ≡ resumed vs more → cond b xs ys ≡ resumed (cond b us vs) more
either_resumed true xs ys us vs more e f = e
either_resumed false xs ys us vs more e f = f

behind_some : (f : Found) (all more : List Found) → strongest_behind (Some f) (all ++ more) ≡ resumed (strongest_behind (Some f) all) more
behind_some f [] more = refl
behind_some f (g ∷ all) more =
    either_resumed (f.rules == g.rules) (strongest_behind (Some (joined f g)) (all ++ more)) (f ∷ strongest_behind (Some g) (all ++ more)) (strongest_behind (Some (joined f g)) all) (f ∷ strongest_behind (Some g) all) more
    (behind_some (joined f g) all more)
    (ap (λ fs. f ∷ fs) (behind_some g all more) ∙ sym (resumed_more f (strongest_behind (Some g) all) more (some_behind g all)))

behind_all : (all more : List Found) → strongest_behind None (all ++ more) ≡ resumed (strongest_behind None all) more
behind_all [] more = refl
behind_all (f ∷ all) more = behind_some f all more

-- ---- twice the same

either_same : {A : Type 0} (b : Bool) (x : A) → cond b x x ≡ x
either_same true x = refl
either_same false x = refl

later_twice : (a b : Spec) (t : Bool) → is_gt (spec_cmp a b) ≡ t → later_of spec_cmp (later_of spec_cmp a b) b ≡ later_of spec_cmp a b
later_twice a b true e = rw e (ap (λ t. cond t a b) e)
later_twice a b false e = rw e (either_same (is_gt (spec_cmp b b)) b)

joined_twice : (f g : Found) → joined (joined f g) g ≡ joined f g
joined_twice f g = ap (λ s. let j : Found = record { rules = f.rules; spec = s } in j) (later_twice f.spec g.spec (is_gt (spec_cmp f.spec g.spec)) refl)

joined_self : (f : Found) → joined f f ≡ f
joined_self f = ap (λ s. let j : Found = record { rules = f.rules; spec = s } in j) (either_same (is_gt (spec_cmp f.spec f.spec)) f.spec)

self_behind : (f : Found) → strongest_behind (Some f) (f ∷ []) ≡ f ∷ []
self_behind f = ap (λ b. cond b (joined f f ∷ []) (f ∷ f ∷ [])) (same_number f.rules) ∙ ap (λ g. g ∷ []) (joined_self f)

twice_behind : (g f : Found) (b : Bool) → (g.rules == f.rules) ≡ b → strongest_behind (Some g) (f ∷ f ∷ []) ≡ strongest_behind (Some g) (f ∷ [])
twice_behind g f true e = rw e (ap (λ j. j ∷ []) (joined_twice g f))
twice_behind g f false e = rw e (ap (λ fs. g ∷ fs) (self_behind f))

twice : (all : List Found) (f : Found) → resumed all (f ∷ f ∷ []) ≡ resumed all (f ∷ [])
twice [] f = self_behind f
twice (g ∷ []) f = twice_behind g f (g.rules == f.rules) refl
twice (g ∷ h ∷ all) f = ap (λ fs. g ∷ fs) (twice (h ∷ all) f)

-- ---- one more selector

pub stand_for_more : (nodes : List Node) (some all : List Numbered) (x : Numbered) → StandFor nodes some all → StandFor nodes (some ++ x ∷ []) (all ++ x ∷ [])
stand_for_more nodes some all x h = λ n found m.
    let s = in_two nodes n some (x ∷ []) found m in
    let k = h n s.before s.first in (
      k.0 ++ s.after,
      matched_append nodes n k.1 s.second,
      ap (strongest_behind None) s.whole ∙ behind_all s.before s.after ∙ ap (λ fs. resumed fs s.after) k.2 ∙ sym (behind_all k.0 s.after),
    )

again : (fs whole : List Found) (f : Found) (all : List Found) → all ≡ fs ++ f ∷ [] → strongest_behind None all ≡ strongest_behind None whole → strongest_behind None all ≡ strongest_behind None (whole ++ f ∷ [])
again fs whole f all is same =
    ap (strongest_behind None) is
    ∙ behind_all fs (f ∷ [])
    ∙ sym (twice (strongest_behind None fs) f)
    ∙ sym (behind_all fs (f ∷ f ∷ []))
    ∙ ap (strongest_behind None) (sym (append_assoc fs (f ∷ []) (f ∷ [])))
    ∙ behind_all (fs ++ f ∷ []) (f ∷ [])
    ∙ ap (λ xs. resumed (strongest_behind None xs) (f ∷ [])) (sym is)
    ∙ ap (λ gs. resumed gs (f ∷ [])) same
    ∙ sym (behind_all whole (f ∷ []))

record Repeated (nodes : List Node) (n : ℕ) (all : List Numbered) (x : Numbered) (found : List Found) : Type 0 where
  whole : List Found
  matched : Matched nodes n (all ++ x ∷ []) whole
  same : strongest_behind None found ≡ strongest_behind None whole

repeated_at : (nodes : List Node) (n i : ℕ) (last r : Ranked) (all : List Numbered) (before after found_all whole : List Found) → last.selector.parts ≡ r.selector.parts → last.spec ≡ r.spec → found_all ≡ before ++ after → Matched nodes n all whole → strongest_behind None found_all ≡ strongest_behind None whole
    → (Match last.selector.parts nodes n × (after ≡ found (i, last) ∷ [])) ⊎ ((Match last.selector.parts nodes n → ⊥) × (after ≡ [])) → Repeated nodes n all (i, r) found_all
repeated_at nodes n i last r all before after found_all whole parts spec is m same (inl h) =
    let f = found (i, last) in
    let g = found (i, r) in
    let same_found : f ≡ g = ap (λ s. let j : Found = record { rules = i; spec = s } in j) spec in
    record {
      whole = whole ++ g ∷ [];
      matched = matched_append nodes n m (Matched.matches (subst (λ ps. Match ps nodes n) parts h.0) Matched.none);
      same = subst (λ x. strongest_behind None found_all ≡ strongest_behind None (whole ++ x ∷ [])) same_found (again before whole f found_all (is ∙ ap (λ xs. before ++ xs) h.1) same);
    }
repeated_at nodes n i last r all before after found_all whole parts spec is m same (inr h) = record {
  whole = whole ++ [];
  matched = matched_append nodes n m (Matched.passes_by (λ yes. h.0 (subst (λ ps. Match ps nodes n) (sym parts) yes)) Matched.none);
  same = same ∙ ap (strongest_behind None) (sym (append-nil whole));
}

pub stand_for_repeated : (nodes : List Node) (some all : List Numbered) (i : ℕ) (r : Ranked) → RepeatsLast some i r → StandFor nodes some all → StandFor nodes some (all ++ (i, r) ∷ [])
stand_for_repeated nodes some all i r repeats h = λ n found m.
    let last : Numbered = (i, repeats.1) in
    let s = in_two nodes n repeats.0 (last ∷ []) found (subst (λ xs. Matched nodes n xs found) repeats.2 m) in
    let k = h n found m in
    let is = repeated_at nodes n i repeats.1 r all s.before s.after found k.0 repeats.3 repeats.4 s.whole k.1 k.2 (one_matched nodes n last s.after s.second) in
    (is.whole, is.matched, is.same)

-- a selector that matches no node of the page
pub stand_for_lacking : (nodes : List Node) (some all : List Numbered) (x : Numbered) → ((n : ℕ) → Match x.1.selector.parts nodes n → ⊥) → StandFor nodes some all → StandFor nodes some (all ++ x ∷ [])
stand_for_lacking nodes some all x never h = λ n found m.
    let k = h n found m in (
      k.0 ++ [],
      matched_append nodes n k.1 (Matched.passes_by (never n) Matched.none),
      k.2 ∙ ap (strongest_behind None) (sym (append-nil k.0)),
    )

pub nothing_for_nothing : (nodes : List Node) (some : List Numbered) → some ≡ [] → StandFor nodes some []
nothing_for_nothing nodes some e = λ n found m. (found, subst (λ xs. Matched nodes n xs found) e m, refl)
