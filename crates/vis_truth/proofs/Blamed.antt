use Rattle.std.proofs.Common.{◌≡◌, ℕ, zero, suc, ◌+◌, ◌<◌, Bool, true, false, not, ◌&&◌, List, [], ◌∷◌, filter, take, length, Option, Some, None, unwrap_or, refl, ap, ◌∙◌, arith}
use denote.Hole.Carrier.{roll}
use Rattle.std.specs.Option.{is_none}
use Rattle.std.specs.List.{find, list_any, range_with_len}
use Rattle.std.proofs.lemmas.Bool.{or_parts}
use Rattle.viz_base.specs.declared.formulas.Set.{Set}
use Rattle.viz_base.specs.declared.formulas.Formula.{Formula}
use Rattle.viz_base.specs.declared.formulas.Formula.TheVariants.{Forall, Implies, And}
use Rattle.viz_base.specs.declared.formulas.Formula.TheOpen.{Formula-F}
use Rattle.viz_base.specs.declared.formulas.Formula.TheViews.{roll-Formula}
use Rattle.viz_base.specs.declared.formulas.Formula.TheFolds.{ind-Formula}
use Rattle.logic_semantics.specs.Scenes.{Scene, is_member_at}
use Rattle.logic_semantics.specs.Truth.{truth_in}
use Rattle.logic_semantics.specs.Blame.{first_wrong, wrong_where, finding_in, blame_in}
use Rattle.logic_semantics.proofs.Findings.{blame-Const, blame-Exists, blame-Or, blame-Not, blame-Cmp, blame-Overlap, blame-Same, none_is_true, first_here, first_later, finding-Forall, finding-Implies}
use Rattle.vis_truth.specs.Scenes.{is_witness}

-- ---- the first number of a range that passes a test

pub find-none : (p : ℕ → Bool) (xs : List ℕ) → list_any p xs ≡ false → find p xs ≡ None
find-none p [] h = refl
find-none p (x ∷ xs) h = let parts = or_parts (p x) (list_any p xs) h in rw parts.0 (find-none p xs parts.1)

find-from : (p : ℕ → Bool) (a n i : ℕ) → list_any p (take i (range_with_len a n)) ≡ false → i < n → p (a + i) ≡ true → find p (range_with_len a n) ≡ Some (a + i)
find-from p a zero i before lt here = absurd (omega arith)
find-from p a (suc n) zero before lt here = let same : a + 0 ≡ a = omega arith in rw same (let yes = rw same at here in rw yes refl)
find-from p a (suc n) (suc i) before lt here =
    let parts = or_parts (p a) (list_any p (take i (range_with_len (a + 1) n))) before in
    let same : a + suc i ≡ (a + 1) + i = omega arith in
    rw (parts.0, same) (find-from p (a + 1) n i parts.1 (omega arith) (rw same at here))

pub find-at : (p : ℕ → Bool) (n i : ℕ) → list_any p (take i (range_with_len 0 n)) ≡ false → i < n → p i ≡ true → find p (range_with_len 0 n) ≡ Some i
find-at p n i before lt here = let same : 0 + i ≡ i = omega arith in find-from p 0 n i before lt (rw same here) ∙ ap Some same

-- ---- whom a `forall` blames

-- what the first number that passes the test and has something wrong with it says
first-wrong_found : (f : ℕ → Option (List ℕ)) (q p : ℕ → Bool) → ((m : ℕ) → is_none (f m) ≡ p m) → (xs : List ℕ) (m : ℕ)
    → find (λ x. q x && not (p x)) xs ≡ Some m → unwrap_or (first_wrong f (filter q xs)) [] ≡ m ∷ unwrap_or (f m) []
first-wrong_found f q p same [] m h = absurd (cc)
first-wrong_found f q p same (x ∷ xs) m h = by_cases (q x) (p x) refl refl (first-wrong_found f q p same xs m)
  where
    by_cases : (a b : Bool) → q x ≡ a → p x ≡ b → (find (λ x. q x && not (p x)) xs ≡ Some m → unwrap_or (first_wrong f (filter q xs)) [] ≡ m ∷ unwrap_or (f m) [])
        → unwrap_or (first_wrong f (filter q (x ∷ xs))) [] ≡ m ∷ unwrap_or (f m) []
    by_cases false b out is rest = rw out (rest (rw out at h))
    by_cases true true within is rest = rw (within, first_later x (f x) (first_wrong f (filter q xs)) (same x ∙ is)) (rest (rw (within, is) at h))
    by_cases true false within is rest =
        let here : x ≡ m = (let found = rw (within, is) at h in cc) in
        rw within (first_here x (f x) (first_wrong f (filter q xs)) (same x ∙ is) ∙ ap (λ k. k ∷ unwrap_or (f k) []) here)

first-wrong_none : (f : ℕ → Option (List ℕ)) (q p : ℕ → Bool) → ((m : ℕ) → is_none (f m) ≡ p m) → (xs : List ℕ)
    → find (λ x. q x && not (p x)) xs ≡ None → unwrap_or (first_wrong f (filter q xs)) [] ≡ []
first-wrong_none f q p same [] h = refl
first-wrong_none f q p same (x ∷ xs) h = by_cases (q x) (p x) refl refl (first-wrong_none f q p same xs)
  where
    by_cases : (a b : Bool) → q x ≡ a → p x ≡ b → (find (λ x. q x && not (p x)) xs ≡ None → unwrap_or (first_wrong f (filter q xs)) [] ≡ [])
        → unwrap_or (first_wrong f (filter q (x ∷ xs))) [] ≡ []
    by_cases false b out is rest = rw out (rest (rw out at h))
    by_cases true true within is rest = rw (within, first_later x (f x) (first_wrong f (filter q xs)) (same x ∙ is)) (rest (rw (within, is) at h))
    by_cases true false within is rest = absurd (let found = rw (within, is) at h in cc)

pub blame-Forall_found : (scene : Scene) (set : Set) (body : Formula) (names : List ℕ) (m : ℕ)
    → find (is_witness scene set body false names) (range_with_len 0 (length scene.boxes)) ≡ Some m
    → blame_in scene (Forall set body) names ≡ m ∷ blame_in scene body (m ∷ names)
blame-Forall_found scene set body names m h =
    ap (λ (o : Option (List ℕ)). unwrap_or o []) (finding-Forall scene set body names)
    ∙ first-wrong_found (λ m. finding_in scene body (m ∷ names)) (is_member_at set scene.boxes) (λ m. truth_in scene body (m ∷ names)) (λ m. none_is_true scene body (m ∷ names))
    (range_with_len 0 (length scene.boxes)) m h

pub blame-Forall_none : (scene : Scene) (set : Set) (body : Formula) (names : List ℕ)
    → find (is_witness scene set body false names) (range_with_len 0 (length scene.boxes)) ≡ None
    → blame_in scene (Forall set body) names ≡ []
blame-Forall_none scene set body names h =
    ap (λ (o : Option (List ℕ)). unwrap_or o []) (finding-Forall scene set body names)
    ∙ first-wrong_none (λ m. finding_in scene body (m ∷ names)) (is_member_at set scene.boxes) (λ m. truth_in scene body (m ∷ names)) (λ m. none_is_true scene body (m ∷ names))
    (range_with_len 0 (length scene.boxes)) h

-- ---- whom an `implies` blames

where-holds : (a b : Option (List ℕ)) → is_none a ≡ true → unwrap_or (wrong_where a b) [] ≡ unwrap_or b []
where-holds None b h = refl
where-holds (Some x) b h = absurd (cc)

where-fails : (a b : Option (List ℕ)) → is_none a ≡ false → unwrap_or (wrong_where a b) [] ≡ []
where-fails None b h = absurd (cc)
where-fails (Some x) b h = refl

pub blame-Implies_holds : (scene : Scene) (a b : Formula) (names : List ℕ) → truth_in scene a names ≡ true → blame_in scene (Implies a b) names ≡ blame_in scene b names
blame-Implies_holds scene a b names h =
    ap (λ (o : Option (List ℕ)). unwrap_or o []) (finding-Implies scene a b names) ∙ where-holds _ _ (none_is_true scene a names ∙ h)

pub blame-Implies_fails : (scene : Scene) (a b : Formula) (names : List ℕ) → truth_in scene a names ≡ false → blame_in scene (Implies a b) names ≡ []
blame-Implies_fails scene a b names h =
    ap (λ (o : Option (List ℕ)). unwrap_or o []) (finding-Implies scene a b names) ∙ where-fails _ (finding_in scene b names) (none_is_true scene a names ∙ h)

-- ---- whom all other formulas blame

other-level : (scene : Scene) (names : List ℕ) (x : Formula-F Formula)
    → ((set : Set) (body : Formula) → roll-Formula x ≡ Forall set body → ⊥) → ((a b : Formula) → roll-Formula x ≡ Implies a b → ⊥) → ((a b : Formula) → roll-Formula x ≡ And a b → ⊥)
    → blame_in scene (roll-Formula x) names ≡ []
unfolding roll-Formula roll
other-level scene names (Formula-F.Const value) f i a = blame-Const scene value names
other-level scene names (Formula-F.Forall set body) f i a = absurd (f set body refl)
other-level scene names (Formula-F.Exists set body) f i a = blame-Exists scene set body names
other-level scene names (Formula-F.Implies b c) f i a = absurd (i b c refl)
other-level scene names (Formula-F.Or b c) f i a = blame-Or scene b c names
other-level scene names (Formula-F.And b c) f i a = absurd (a b c refl)
other-level scene names (Formula-F.Not b) f i a = blame-Not scene b names
other-level scene names (Formula-F.Cmp left sign right) f i a = blame-Cmp scene left right sign names
other-level scene names (Formula-F.Overlap b c) f i a = blame-Overlap scene b c names
other-level scene names (Formula-F.Same b c) f i a = blame-Same scene b c names

abbrev OtherBlamesNone : Scene → List ℕ → Formula → Type 0
OtherBlamesNone scene names formula =
    ((set : Set) (body : Formula) → formula ≡ Forall set body → ⊥) → ((a b : Formula) → formula ≡ Implies a b → ⊥) → ((a b : Formula) → formula ≡ And a b → ⊥)
    → blame_in scene formula names ≡ []

pub blame-other : (scene : Scene) (names : List ℕ) (f : Formula)
    → ((set : Set) (body : Formula) → f ≡ Forall set body → ⊥) → ((a b : Formula) → f ≡ Implies a b → ⊥) → ((a b : Formula) → f ≡ And a b → ⊥)
    → blame_in scene f names ≡ []
blame-other scene names = ind-Formula (OtherBlamesNone scene names) (λ x y is. other-level scene names x)
