use Rattle.std.proofs.Common.{◌≡◌, ℕ, ◌<◌, ◌≤◌, ◌+◌, zero, suc, Bool, true, false, not, ◌&&◌, ◌||◌, List, [], ◌∷◌, filter, length, Option, Some, None, is_some, unwrap_or, refl, ap, sym, subst, ◌∙◌, rules, arith}
use Rattle.std.specs.Option.{is_none}
use Rattle.std.specs.List.{list_all, list_any, range_with_len}
use Rattle.viz_base.specs.declared.formulas.Set.{Set}
use Rattle.viz_base.specs.declared.formulas.Sign.{Sign}
use Rattle.viz_base.specs.declared.formulas.Term.{Term}
use Rattle.viz_base.specs.declared.formulas.Formula.{Formula}
use Rattle.viz_base.specs.declared.formulas.Formula.TheOpen.{Formula-F}
use Rattle.viz_base.specs.declared.formulas.Formula.TheVariants.{Const, Forall, Exists, Implies, Or, And, Not, Cmp, Overlap, Same}
use Rattle.viz_base.specs.declared.formulas.Formula.TheViews.{the_lemmas, roll-Formula}
use Rattle.viz_base.specs.declared.formulas.Formula.TheFolds.{ind-Formula, map-Formula, fold-roll-Formula, fold_out-Formula}
use Rattle.logic_semantics.specs.Scenes.{Scene, members, is_member_at}
use Rattle.logic_semantics.specs.Terms.{term_value, compares}
use Rattle.logic_semantics.specs.Truth.{Meaning, truth_step, truth_in}
use Rattle.std.specs.Prelude.{◌⊎◌}
use Rattle.std.proofs.Common.{inl, inr}
use Rattle.std.proofs.lemmas.Bool.{cases_lt}
use Rattle.logic_semantics.specs.Laws.{IsFirstFailing}
use Rattle.logic_semantics.proofs.Meanings.{truth-Forall}
use Rattle.logic_semantics.specs.Blame.{Finding, blameless, with_member, first_wrong, either_wrong, wrong_where, finding_step, finding_in, blame_in}

-- ---- where something is wrong

none_blameless : (b : Bool) → is_none (blameless b) ≡ b
none_blameless true = refl
none_blameless false = refl

none_wrong : (find : ℕ → Option (List ℕ)) (p : ℕ → Bool) → ((m : ℕ) → is_none (find m) ≡ p m) → (ms : List ℕ) → is_none (first_wrong find ms) ≡ list_all p ms
none_wrong find p same [] = refl
none_wrong find p same (m ∷ ms) = by_cases (find m) (p m) (same m) (none_wrong find p same ms)
  where
    by_cases : (o : Option (List ℕ)) (b : Bool) → is_none o ≡ b → is_none (first_wrong find ms) ≡ list_all p ms → is_none (with_member m o (first_wrong find ms)) ≡ (b && list_all p ms)
    by_cases None true h rest = rest
    by_cases None false h rest = absurd (cc)
    by_cases (Some x) true h rest = absurd (cc)
    by_cases (Some x) false h rest = refl

some_right : (find : ℕ → Option (List ℕ)) (p : ℕ → Bool) → ((m : ℕ) → is_none (find m) ≡ p m) → (ms : List ℕ) → list_any (λ m. is_none (find m)) ms ≡ list_any p ms
some_right find p same [] = refl
some_right find p same (m ∷ ms) = rw (same m, some_right find p same ms) refl

none_either : (a b : Option (List ℕ)) → is_none (either_wrong a b) ≡ (is_none a && is_none b)
none_either None b = refl
none_either (Some x) b = refl

none_where : (a b : Option (List ℕ)) → is_none (wrong_where a b) ≡ (not (is_none a) || is_none b)
none_where None b = refl
none_where (Some x) b = refl

some_not_none : (a : Option (List ℕ)) → is_some a ≡ not (is_none a)
some_not_none None = refl
some_not_none (Some x) = refl

-- ---- something is wrong exactly where the formula is false

abbrev Agrees : Scene → Formula → Type 0
Agrees scene f = (names : List ℕ) → is_none (finding_in scene f names) ≡ truth_in scene f names

step_agrees : {E : Type 0} (scene : Scene) (e : E → Formula) (y : Formula-F E) → ((p : E) → Agrees scene (e p)) → (names : List ℕ)
    → is_none (finding_step scene (map-Formula Formula Finding (finding_in scene) (map-Formula E Formula e y)) names)
    ≡ truth_step scene (map-Formula Formula Meaning (truth_in scene) (map-Formula E Formula e y)) names
step_agrees scene e (Formula-F.Const value) parts names = none_blameless value
step_agrees scene e (Formula-F.Forall set body) parts names = none_wrong _ _ (λ m. parts body (m ∷ names)) (members set scene.boxes)
step_agrees scene e (Formula-F.Exists set body) parts names = none_blameless _ ∙ some_right _ _ (λ m. parts body (m ∷ names)) (members set scene.boxes)
step_agrees scene e (Formula-F.Implies a b) parts names = none_where (finding_in scene (e a) names) (finding_in scene (e b) names) ∙ rw (parts a names, parts b names) refl
step_agrees scene e (Formula-F.Or a b) parts names = none_blameless (is_none (finding_in scene (e a) names) || is_none (finding_in scene (e b) names)) ∙ rw (parts a names, parts b names) refl
step_agrees scene e (Formula-F.And a b) parts names = none_either (finding_in scene (e a) names) (finding_in scene (e b) names) ∙ rw (parts a names, parts b names) refl
step_agrees scene e (Formula-F.Not a) parts names = none_blameless _ ∙ some_not_none _ ∙ ap not (parts a names)
step_agrees scene e (Formula-F.Cmp left sign right) parts names = none_blameless _
step_agrees scene e (Formula-F.Overlap a b) parts names = none_blameless _
step_agrees scene e (Formula-F.Same a b) parts names = none_blameless _

layer : {E : Type 0} (scene : Scene) (e : E → Formula) (y : Formula-F E) → ((p : E) → Agrees scene (e p)) → Agrees scene (roll-Formula (map-Formula E Formula e y))
layer {E = E} scene e y parts names =
    ap (λ (g : Finding). is_none (g names)) (fold-roll-Formula Finding (finding_step scene) (map-Formula E Formula e y))
    ∙ step_agrees scene e y parts names
    ∙ sym (ap (λ (g : Meaning). g names) (fold-roll-Formula Meaning (truth_step scene) (map-Formula E Formula e y)))

pub none_is_true : (scene : Scene) (f : Formula) (names : List ℕ) → is_none (finding_in scene f names) ≡ truth_in scene f names
none_is_true scene = ind-Formula (Agrees scene) (λ x y is. subst (λ z. Agrees scene (roll-Formula z)) is (layer scene (λ p. p.0) y (λ p. p.1)))

-- ---- what is wrong with each form of formula

pub finding-Const : (scene : Scene) (value : Bool) (names : List ℕ) → finding_in scene (Const value) names ≡ blameless value
finding-Const scene value names = search (rules, the_lemmas, fold-roll-Formula, fold_out-Formula)

pub finding-Forall : (scene : Scene) (set : Set) (body : Formula) (names : List ℕ) → finding_in scene (Forall set body) names ≡ first_wrong (λ m. finding_in scene body (m ∷ names)) (members set scene.boxes)
finding-Forall scene set body names = search (rules, the_lemmas, fold-roll-Formula, fold_out-Formula)

pub finding-Exists : (scene : Scene) (set : Set) (body : Formula) (names : List ℕ) → finding_in scene (Exists set body) names ≡ blameless (list_any (λ m. is_none (finding_in scene body (m ∷ names))) (members set scene.boxes))
finding-Exists scene set body names = search (rules, the_lemmas, fold-roll-Formula, fold_out-Formula)

pub finding-Implies : (scene : Scene) (a b : Formula) (names : List ℕ) → finding_in scene (Implies a b) names ≡ wrong_where (finding_in scene a names) (finding_in scene b names)
finding-Implies scene a b names = search (rules, the_lemmas, fold-roll-Formula, fold_out-Formula)

pub finding-Or : (scene : Scene) (a b : Formula) (names : List ℕ) → finding_in scene (Or a b) names ≡ blameless (is_none (finding_in scene a names) || is_none (finding_in scene b names))
finding-Or scene a b names = search (rules, the_lemmas, fold-roll-Formula, fold_out-Formula)

pub finding-And : (scene : Scene) (a b : Formula) (names : List ℕ) → finding_in scene (And a b) names ≡ either_wrong (finding_in scene a names) (finding_in scene b names)
finding-And scene a b names = search (rules, the_lemmas, fold-roll-Formula, fold_out-Formula)

pub finding-Not : (scene : Scene) (a : Formula) (names : List ℕ) → finding_in scene (Not a) names ≡ blameless (is_some (finding_in scene a names))
finding-Not scene a names = search (rules, the_lemmas, fold-roll-Formula, fold_out-Formula)

-- ---- blame

unwrap-none : (o : Option (List ℕ)) → is_none o ≡ true → unwrap_or o [] ≡ []
unwrap-none None h = refl
unwrap-none (Some x) h = absurd (cc)

unwrap-blameless : (b : Bool) → unwrap_or (blameless b) [] ≡ []
unwrap-blameless true = refl
unwrap-blameless false = refl

pub blame-true : (scene : Scene) (f : Formula) (names : List ℕ) → truth_in scene f names ≡ true → blame_in scene f names ≡ []
blame-true scene f names h = unwrap-none (finding_in scene f names) (none_is_true scene f names ∙ h)

pub blame-Const : (scene : Scene) (value : Bool) (names : List ℕ) → blame_in scene (Const value) names ≡ []
blame-Const scene value names = ap (λ (o : Option (List ℕ)). unwrap_or o []) (finding-Const scene value names) ∙ unwrap-blameless value

pub blame-Exists : (scene : Scene) (set : Set) (body : Formula) (names : List ℕ) → blame_in scene (Exists set body) names ≡ []
blame-Exists scene set body names = ap (λ (o : Option (List ℕ)). unwrap_or o []) (finding-Exists scene set body names) ∙ unwrap-blameless _

pub blame-Or : (scene : Scene) (a b : Formula) (names : List ℕ) → blame_in scene (Or a b) names ≡ []
blame-Or scene a b names = ap (λ (o : Option (List ℕ)). unwrap_or o []) (finding-Or scene a b names) ∙ unwrap-blameless _

pub blame-Not : (scene : Scene) (a : Formula) (names : List ℕ) → blame_in scene (Not a) names ≡ []
blame-Not scene a names = ap (λ (o : Option (List ℕ)). unwrap_or o []) (finding-Not scene a names) ∙ unwrap-blameless _

pub blame-Cmp : (scene : Scene) (left right : Term) (sign : Sign) (names : List ℕ) → blame_in scene (Cmp left sign right) names ≡ []
blame-Cmp scene left right sign names =
    let is : finding_in scene (Cmp left sign right) names ≡ blameless (compares sign (term_value scene names left) (term_value scene names right)) = search (rules, the_lemmas, fold-roll-Formula, fold_out-Formula) in
    ap (λ (o : Option (List ℕ)). unwrap_or o []) is ∙ unwrap-blameless _

pub blame-Overlap : (scene : Scene) (a b : ℕ) (names : List ℕ) → blame_in scene (Overlap a b) names ≡ []
blame-Overlap scene a b names =
    let is : finding_in scene (Overlap a b) names ≡ finding_step scene (Formula-F.Overlap a b) names = search (rules, the_lemmas, fold-roll-Formula, fold_out-Formula) in
    ap (λ (o : Option (List ℕ)). unwrap_or o []) is ∙ unwrap-blameless _

pub blame-Same : (scene : Scene) (a b : ℕ) (names : List ℕ) → blame_in scene (Same a b) names ≡ []
blame-Same scene a b names =
    let is : finding_in scene (Same a b) names ≡ finding_step scene (Formula-F.Same a b) names = search (rules, the_lemmas, fold-roll-Formula, fold_out-Formula) in
    ap (λ (o : Option (List ℕ)). unwrap_or o []) is ∙ unwrap-blameless _

either_first : (a b : Option (List ℕ)) → is_none a ≡ false → unwrap_or (either_wrong a b) [] ≡ unwrap_or a []
either_first None b h = absurd (cc)
either_first (Some x) b h = refl

either_second : (a b : Option (List ℕ)) → is_none a ≡ true → unwrap_or (either_wrong a b) [] ≡ unwrap_or b []
either_second None b h = refl
either_second (Some x) b h = absurd (cc)

pub blame-And_first : (scene : Scene) (a b : Formula) (names : List ℕ) → truth_in scene a names ≡ false → blame_in scene (And a b) names ≡ blame_in scene a names
blame-And_first scene a b names h =
    ap (λ (o : Option (List ℕ)). unwrap_or o []) (finding-And scene a b names)
    ∙ either_first (finding_in scene a names) (finding_in scene b names) (none_is_true scene a names ∙ h)

pub blame-And_second : (scene : Scene) (a b : Formula) (names : List ℕ) → truth_in scene a names ≡ true → blame_in scene (And a b) names ≡ blame_in scene b names
blame-And_second scene a b names h =
    ap (λ (o : Option (List ℕ)). unwrap_or o []) (finding-And scene a b names)
    ∙ either_second (finding_in scene a names) (finding_in scene b names) (none_is_true scene a names ∙ h)

where_wrong : (a b : Option (List ℕ)) → is_none (wrong_where a b) ≡ false → unwrap_or (wrong_where a b) [] ≡ unwrap_or b []
where_wrong None b h = refl
where_wrong (Some x) b h = absurd (cc)

pub blame-Implies : (scene : Scene) (a b : Formula) (names : List ℕ) → truth_in scene (Implies a b) names ≡ false → blame_in scene (Implies a b) names ≡ blame_in scene b names
blame-Implies scene a b names h =
    let is = finding-Implies scene a b names in
    ap (λ (o : Option (List ℕ)). unwrap_or o []) is
    ∙ where_wrong (finding_in scene a names) (finding_in scene b names) (sym (ap (λ (o : Option (List ℕ)). is_none o) is) ∙ none_is_true scene (Implies a b) names ∙ h)

-- ---- the first member to blame

record IsFirstOf (find : ℕ → Option (List ℕ)) (p q : ℕ → Bool) (a n m : ℕ) : Type 0 where
  member : q m ≡ true
  fails : p m ≡ false
  at_least : a ≤ m
  none_before : (k : ℕ) → a ≤ k → k < m → q k ≡ true → p k ≡ true
  blamed : unwrap_or (first_wrong find (filter q (range_with_len a n))) [] ≡ m ∷ unwrap_or (find m) []

pub first_here : (m : ℕ) (o rest : Option (List ℕ)) → is_none o ≡ false → unwrap_or (with_member m o rest) [] ≡ m ∷ unwrap_or o []
first_here m None rest h = absurd (cc)
first_here m (Some x) rest h = refl

pub first_later : (m : ℕ) (o rest : Option (List ℕ)) → is_none o ≡ true → with_member m o rest ≡ rest
first_later m None rest h = refl
first_later m (Some x) rest h = absurd (cc)

found_later : (find : ℕ → Option (List ℕ)) (p q : ℕ → Bool) (a n m : ℕ)
    → unwrap_or (first_wrong find (filter q (range_with_len a (suc n)))) [] ≡ unwrap_or (first_wrong find (filter q (range_with_len (a + 1) n))) []
    → (q a ≡ true → p a ≡ true) → IsFirstOf find p q (a + 1) n m → IsFirstOf find p q a (suc n) m
found_later find p q a n m is here found = record {
  member = found.member;
  fails = found.fails;
  at_least = omega arith;
  none_before = λ k low below member. by_cases k below member (cases_lt a k) low;
  blamed = is ∙ found.blamed;
}
  where
    by_cases : (k : ℕ) → k < m → q k ≡ true → (a < k) ⊎ (k ≤ a) → a ≤ k → p k ≡ true
    by_cases k below member (inl l) low = found.none_before k (omega arith) below member
    by_cases k below member (inr g) low = let same : k ≡ a = omega arith in rw same (here (rw same at member))

first_of_range : (find : ℕ → Option (List ℕ)) (p q : ℕ → Bool) → ((m : ℕ) → is_none (find m) ≡ p m) → (a n : ℕ) → list_all p (filter q (range_with_len a n)) ≡ false → (m : ℕ) × IsFirstOf find p q a n m
first_of_range find p q same a zero h = absurd (cc)
first_of_range find p q same a (suc n) h = by_member (q a) (p a) refl refl (first_of_range find p q same (a + 1) n)
  where
    by_member : (member holds : Bool) → q a ≡ member → p a ≡ holds
        → (list_all p (filter q (range_with_len (a + 1) n)) ≡ false → (m : ℕ) × IsFirstOf find p q (a + 1) n m) → (m : ℕ) × IsFirstOf find p q a (suc n) m
    by_member false holds out is rest =
        let later = rest (rw out at h) in
        (later.0, found_later find p q a n later.0 (rw out refl) (λ within. absurd (let clash = sym within ∙ out in cc)) later.1)
    by_member true true within is rest =
        let tail = rw (within, is) at h in
        let later = rest tail in
        (later.0, found_later find p q a n later.0 (rw (within, first_later a (find a) (first_wrong find (filter q (range_with_len (a + 1) n))) (same a ∙ is)) refl) (λ _. is) later.1)
    by_member true false within is rest = (
      a,
      record {
        member = within;
        fails = is;
        at_least = omega arith;
        none_before = λ k low below member. absurd (omega arith);
        blamed = rw within (first_here a (find a) (first_wrong find (filter q (range_with_len (a + 1) n))) (same a ∙ is));
      },
    )

pub blame-Forall : (scene : Scene) (set : Set) (body : Formula) (names : List ℕ) → truth_in scene (Forall set body) names ≡ false
    → (m : ℕ) × (IsFirstFailing scene set body names m × (blame_in scene (Forall set body) names ≡ m ∷ blame_in scene body (m ∷ names)))
blame-Forall scene set body names h =
    let find : ℕ → Option (List ℕ) = λ m. finding_in scene body (m ∷ names) in
    let first = first_of_range find (λ m. truth_in scene body (m ∷ names)) (is_member_at set scene.boxes) (λ m. none_is_true scene body (m ∷ names)) 0 (length scene.boxes) (sym (truth-Forall scene set body names) ∙ h) in (
      first.0,
      (
        record {
          member = first.1.member;
          fails = first.1.fails;
          none_before = λ k below member. first.1.none_before k (omega arith) below member;
        },
        ap (λ (o : Option (List ℕ)). unwrap_or o []) (finding-Forall scene set body names) ∙ first.1.blamed,
      ),
    )
