-- Lists in which nothing is twice.
use Rattle.std.proofs.Common.{◌≡◌, ℕ, zero, suc, ◌+◌, ◌<◌, ◌≤◌, Bool, true, false, ◌||◌, List, [], ◌∷◌, ◌++◌, map, cond, refl, ap, sym, subst, ◌∙◌, inl, inr, arith}
use Rattle.std.specs.Prelude.{◌⊎◌, count_by}
use Rattle.std.specs.List.{fold, list_any, range_with_len}
use Rattle.std.proofs.Math.Bool.{or-false}
use Rattle.std.proofs.lemmas.Bool.{or_cases}
use Rattle.std.proofs.lemmas.List.Folds.{list_any-append}
use Rattle.std.proofs.lemmas.List.Sums.{sum_by-append}
use Rattle.page_media.specs.Distinct.{noted}

-- ---- tests of some element

pub any-map : {X Y : Type 0} (p : Y → Bool) (f : X → Y) (xs : List X) → list_any p (map f xs) ≡ list_any (λ x. p (f x)) xs
any-map p f [] = refl
any-map p f (x ∷ xs) = ap (λ b. p (f x) || b) (any-map p f xs)

pub some_of_range : (p : ℕ → Bool) (a n : ℕ) → list_any p (range_with_len a n) ≡ true → (m : ℕ) × ((a ≤ m) × ((m < a + n) × (p m ≡ true)))
some_of_range p a zero h = absurd (cc)
some_of_range p a (suc n) h = by_cases (or_cases (p a) (list_any p (range_with_len (a + 1) n)) h) (some_of_range p (a + 1) n)
  where
    by_cases : (p a ≡ true) ⊎ (list_any p (range_with_len (a + 1) n) ≡ true)
        → (list_any p (range_with_len (a + 1) n) ≡ true → (m : ℕ) × ((a + 1 ≤ m) × ((m < a + 1 + n) × (p m ≡ true))))
        → (m : ℕ) × ((a ≤ m) × ((m < a + suc n) × (p m ≡ true)))
    by_cases (inl here) later = (a, (omega arith, (omega arith, here)))
    by_cases (inr there) later =
        let found = later there in
        (found.0, (let low : a + 1 ≤ found.0 = found.1.0 in omega arith, (let lt : found.0 < a + 1 + n = found.1.1.0 in omega arith, found.1.1.1)))

-- ---- noting

or-assoc : (a b c : Bool) → ((a || b) || c) ≡ (a || (b || c))
or-assoc true b c = refl
or-assoc false b c = refl

-- what is among the known ones, with one more
pub noted-any : {X : Type 0} (same : X → X → Bool) → ((x y : X) → same x y ≡ true → x ≡ y) → (x y : X) (known : List X)
    → list_any (same x) (noted same known y) ≡ (list_any (same x) known || same x y)
noted-any {X} same equal x y known = by (list_any (same y) known) (same x y) refl refl
  where
    by : (has is : Bool) → list_any (same y) known ≡ has → same x y ≡ is
        → list_any (same x) (cond has known (known ++ y ∷ [])) ≡ (list_any (same x) known || is)
    by true true has is =
        let e : x ≡ y = equal x y is in
        let k : list_any (same x) known ≡ true = subst (λ (z : X). list_any (same z) known ≡ true) (sym e) has in
        rw k refl
    by true false has is = sym (or-false (list_any (same x) known))
    by false is has e =
        list_any-append (same x) known (y ∷ [])
        ∙ ap (λ b. list_any (same x) known || b) (or-false (same x y) ∙ e)

pub noted_all-any : {X : Type 0} (same : X → X → Bool) → ((x y : X) → same x y ≡ true → x ≡ y) → (x : X) (known xs : List X)
    → list_any (same x) (fold (noted same) known xs) ≡ (list_any (same x) known || list_any (same x) xs)
noted_all-any same equal x known [] = sym (or-false (list_any (same x) known))
noted_all-any same equal x known (y ∷ ys) =
    noted_all-any same equal x (noted same known y) ys
    ∙ (ap (λ b. b || list_any (same x) ys) (noted-any same equal x y known)
    ∙ or-assoc (list_any (same x) known) (same x y) (list_any (same x) ys))

once_more : (count : ℕ) (known is : Bool) → count ≡ cond known 1 0 → (is ≡ true → known ≡ false)
    → count + (0 + cond is 1 0) ≡ cond (known || (is || false)) 1 0
once_more count true true h e = let clash : true ≡ false = e refl in absurd (cc)
once_more count false true h e = omega arith
once_more count true false h e = omega arith
once_more count false false h e = omega arith

-- what is among the known ones is so once
noted-once : {X : Type 0} (same : X → X → Bool) → ((x y : X) → same x y ≡ true → x ≡ y) → (x y : X) (known : List X)
    → count_by (same x) known ≡ cond (list_any (same x) known) 1 0
    → count_by (same x) (noted same known y) ≡ cond (list_any (same x) (noted same known y)) 1 0
noted-once {X} same equal x y known h = by (list_any (same y) known) refl
  where
    by : (has : Bool) → list_any (same y) known ≡ has
        → count_by (same x) (cond has known (known ++ y ∷ [])) ≡ cond (list_any (same x) (cond has known (known ++ y ∷ []))) 1 0
    by true has = h
    by false has =
        sum_by-append (λ z. cond (same x z) 1 0) known (y ∷ [])
        ∙ (once_more (count_by (same x) known) (list_any (same x) known) (same x y) h
        (λ is. subst (λ (z : X). list_any (same z) known ≡ false) (sym (equal x y is)) has)
        ∙ ap (λ b. cond b 1 0) (sym (list_any-append (same x) known (y ∷ []))))

pub noted_all-once : {X : Type 0} (same : X → X → Bool) → ((x y : X) → same x y ≡ true → x ≡ y) → (x : X) (known xs : List X)
    → count_by (same x) known ≡ cond (list_any (same x) known) 1 0
    → count_by (same x) (fold (noted same) known xs) ≡ cond (list_any (same x) (fold (noted same) known xs)) 1 0
noted_all-once same equal x known [] h = h
noted_all-once same equal x known (y ∷ ys) h =
    noted_all-once same equal x (noted same known y) ys (noted-once same equal x y known h)
