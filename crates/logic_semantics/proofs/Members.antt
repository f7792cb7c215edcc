use Rattle.std.proofs.Common.{◌≡◌, ℕ, zero, suc, ◌+◌, ◌<◌, ◌≤◌, Bool, true, false, not, ◌&&◌, ◌||◌, List, [], ◌∷◌, filter, cond, length, refl, ap, sym, ◌∙◌, arith}
use Rattle.std.specs.List.{list_all, list_any, range_with_len}
use Rattle.std.proofs.lemmas.Option.{slice_get_past}
use Rattle.std.proofs.lemmas.Bool.{and_parts, cases_lt, or_cases}
use Rattle.std.specs.Prelude.{◌⊎◌}
use Rattle.std.proofs.Common.{inl, inr}
use Rattle.viz_base.specs.declared.formulas.Set.{Set}
use Rattle.viz_base.specs.declared.renderings.Placed.{Placed}
use Rattle.logic_semantics.specs.Scenes.{is_member_at, members}

-- ---- tests of a list's elements that pass another test

pub list_all-filter : {X : Type 0} (p q : X → Bool) (xs : List X) → list_all p (filter q xs) ≡ list_all (λ x. not (q x) || p x) xs
list_all-filter p q [] = refl
list_all-filter p q (x ∷ xs) =
    let rest = list_all-filter p q xs in
    elim (q x) as (λ b. list_all p (cond b (x ∷ filter q xs) (filter q xs)) ≡ ((not b || p x) && list_all (λ x. not (q x) || p x) xs))
    [ true ↦ ap (λ b. p x && b) rest | false ↦ rest ]

pub list_any-filter : {X : Type 0} (p q : X → Bool) (xs : List X) → list_any p (filter q xs) ≡ list_any (λ x. q x && p x) xs
list_any-filter p q [] = refl
list_any-filter p q (x ∷ xs) =
    let rest = list_any-filter p q xs in
    elim (q x) as (λ b. list_any p (cond b (x ∷ filter q xs) (filter q xs)) ≡ ((b && p x) || list_any (λ x. q x && p x) xs))
    [ true ↦ ap (λ b. p x || b) rest | false ↦ rest ]

-- ---- tests of the numbers of a range

pub each_of_range : (p : ℕ → Bool) (a n : ℕ) → list_all p (range_with_len a n) ≡ true → (m : ℕ) → a ≤ m → m < a + n → p m ≡ true
each_of_range p a zero h m low high = absurd (omega arith)
each_of_range p a (suc n) h m low high =
    let parts = and_parts (p a) (list_all p (range_with_len (a + 1) n)) h in
    by_cases (cases_lt a m) parts.0 (λ l. each_of_range p (a + 1) n parts.1 m (omega arith) (omega arith))
  where
    by_cases : (a < m) ⊎ (m ≤ a) → p a ≡ true → (a < m → p m ≡ true) → p m ≡ true
    by_cases (inl l) here later = later l
    by_cases (inr g) here later = let same : m ≡ a = omega arith in rw same here

pub range_of_each : (p : ℕ → Bool) (a n : ℕ) → ((m : ℕ) → a ≤ m → m < a + n → p m ≡ true) → list_all p (range_with_len a n) ≡ true
range_of_each p a zero h = refl
range_of_each p a (suc n) h =
    rw (h a (omega arith) (omega arith)) (range_of_each p (a + 1) n (λ m low high. h m (omega arith) (omega arith)))

pub some_of_range : (p : ℕ → Bool) (a n : ℕ) → list_any p (range_with_len a n) ≡ true → (m : ℕ) × ((m < a + n) × (p m ≡ true))
some_of_range p a zero h = absurd (cc)
some_of_range p a (suc n) h = by_cases (or_cases (p a) (list_any p (range_with_len (a + 1) n)) h) (some_of_range p (a + 1) n)
  where
    by_cases : (p a ≡ true) ⊎ (list_any p (range_with_len (a + 1) n) ≡ true) → (list_any p (range_with_len (a + 1) n) ≡ true → (m : ℕ) × ((m < a + 1 + n) × (p m ≡ true))) → (m : ℕ) × ((m < a + suc n) × (p m ≡ true))
    by_cases (inl here) later = (a, (omega arith, here))
    by_cases (inr there) later = let found = later there in (found.0, (let lt : found.0 < a + 1 + n = found.1.0 in omega arith, found.1.1))

pub range_of_some : (p : ℕ → Bool) (a n m : ℕ) → a ≤ m → m < a + n → p m ≡ true → list_any p (range_with_len a n) ≡ true
range_of_some p a zero m low high h = absurd (omega arith)
range_of_some p a (suc n) m low high h = by_cases (cases_lt a m) (λ l. range_of_some p (a + 1) n m (omega arith) (omega arith) h)
  where
    by_cases : (a < m) ⊎ (m ≤ a) → (a < m → list_any p (range_with_len (a + 1) n) ≡ true) → (p a || list_any p (range_with_len (a + 1) n)) ≡ true
    by_cases (inl l) later = rw (later l) (elim (p a) as (λ b. (b || true) ≡ true) [ true ↦ refl | false ↦ refl ])
    by_cases (inr g) later = let same : a ≡ m = omega arith in rw (ap p same, h) refl

-- ---- members

-- a member stands in the list
pub member_within : {N : Type 0} (set : Set) (boxes : List (Placed N)) (m : ℕ) → is_member_at set boxes m ≡ true → m < length boxes
member_within set boxes m h = by_cases (cases_lt m (length boxes))
  where
    by_cases : (m < length boxes) ⊎ (length boxes ≤ m) → m < length boxes
    by_cases (inl l) = l
    by_cases (inr g) = let none = slice_get_past boxes m g in absurd (let test = rw none at h in cc)

pub each_member : {N : Type 0} (p : ℕ → Bool) (set : Set) (boxes : List (Placed N)) → list_all p (members set boxes) ≡ true → (m : ℕ) → is_member_at set boxes m ≡ true → p m ≡ true
each_member p set boxes h m member =
    let all = sym (list_all-filter p (is_member_at set boxes) (range_with_len 0 (length boxes))) ∙ h in
    let here = each_of_range (λ m. not (is_member_at set boxes m) || p m) 0 (length boxes) all m (omega arith) (let within = member_within set boxes m member in omega arith) in
    rw member at here

pub of_each_member : {N : Type 0} (p : ℕ → Bool) (set : Set) (boxes : List (Placed N)) → ((m : ℕ) → is_member_at set boxes m ≡ true → p m ≡ true) → list_all p (members set boxes) ≡ true
of_each_member p set boxes h =
    list_all-filter p (is_member_at set boxes) (range_with_len 0 (length boxes))
    ∙ range_of_each (λ m. not (is_member_at set boxes m) || p m) 0 (length boxes)
    (λ m low high. by_cases (is_member_at set boxes m) (p m) (h m))
  where
    by_cases : (q p : Bool) → (q ≡ true → p ≡ true) → (not q || p) ≡ true
    by_cases true p h = h refl
    by_cases false p h = refl

pub some_member : {N : Type 0} (p : ℕ → Bool) (set : Set) (boxes : List (Placed N)) → list_any p (members set boxes) ≡ true → (m : ℕ) × ((is_member_at set boxes m ≡ true) × (p m ≡ true))
some_member p set boxes h =
    let some = sym (list_any-filter p (is_member_at set boxes) (range_with_len 0 (length boxes))) ∙ h in
    let found = some_of_range (λ m. is_member_at set boxes m && p m) 0 (length boxes) some in
    (found.0, and_parts (is_member_at set boxes found.0) (p found.0) found.1.1)

pub of_some_member : {N : Type 0} (p : ℕ → Bool) (set : Set) (boxes : List (Placed N)) (m : ℕ) → is_member_at set boxes m ≡ true → p m ≡ true → list_any p (members set boxes) ≡ true
of_some_member p set boxes m member h =
    list_any-filter p (is_member_at set boxes) (range_with_len 0 (length boxes))
    ∙ range_of_some (λ m. is_member_at set boxes m && p m) 0 (length boxes) m (omega arith) (let within = member_within set boxes m member in omega arith) (rw member h)
