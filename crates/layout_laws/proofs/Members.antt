-- Lemmas on elements of lists and on ascending lists.
use Rattle.std.proofs.Common.{◌≡◌, ℕ, zero, suc, ◌≤◌, Bool, true, false, List, [], ◌∷◌, length, get_or, slice_get, Some, map, flat_map, filter, Contains, refl, sym, ◌∙◌, ap, subst, arith, ◌⊎◌, inl, inr, ⊎_elim, if◌then◌else◌}
use Rattle.std.specs.List.{list_any, list_all}
use Rattle.std.proofs.lemmas.List.{length-map, get_or-map}
use Rattle.std.proofs.lemmas.Option.{slice_get_read}
use Rattle.std.proofs.lemmas.List.Elements.{All-map, All-filter, filter_passes, All-contains, All-contains_itself, Contains-get_or, Contains-append_cases}
use Rattle.std.proofs.lemmas.List.Folds.{Any-from_list_any, list_any-from_Any}
use Rattle.std.proofs.lemmas.List.Sums.{AllPass-from_list_all, list_all-from_AllPass}
use Rattle.viz_base.proofs.ListLemmas.{rises_from, rises_lower, later_member}
use Rattle.viz_base.specs.Orders.{Rises}
use Rattle.layout_semantics.specs.Lists.{one_if}

-- ---- the first element and the later ones

pub no_member : {A P : Type 0} {x : A} → Contains [] x → P
no_member i = absurd (omega (arith, i.1))

pub first_member : {A : Type 0} {y x : A} (ys : List A) → y ≡ x → Contains (y ∷ ys) x
first_member ys e = (0, omega arith, e)

pub first_or_later : {A : Type 0} (y : A) (ys : List A) (x : A) → Contains (y ∷ ys) x → (y ≡ x) ⊎ Contains ys x
first_or_later y ys x (zero, l, e) = inl e
first_or_later y ys x (suc k, l, e) = inr (k, omega (arith, l), e)

pub only_member : {A : Type 0} (y x : A) → Contains (y ∷ []) x → y ≡ x
only_member y x i = ⊎_elim (λ e. e) (λ j. no_member j) (first_or_later y [] x i)

pub member_place : {A : Type 0} (xs : List A) (x : A) (i : Contains xs x) → slice_get xs i.0 ≡ Some x
member_place xs x i = slice_get_read xs (length xs) i.0 x refl i.1 (sym i.2)

-- what holds of the first element, and of x where it is a later one, holds of x
pub by_member : {A : Type 0} (P : A → Type 0) (y : A) (ys : List A) (x : A) → Contains (y ∷ ys) x → P y → (Contains ys x → P x) → P x
by_member P y ys x i here there = ⊎_elim (λ e. subst P e here) there (first_or_later y ys x i)

-- ---- chosen elements

-- an element of the chosen ones is one of the list, and passes
pub from_filter : {A : Type 0} (test : A → Bool) (xs : List A) (x : A) → Contains (filter test xs) x → Contains xs x × (test x ≡ true)
from_filter test xs x i = (All-contains (Contains xs) (filter test xs) x (All-filter test (Contains xs) xs (All-contains_itself xs)) i, All-contains (λ y. test y ≡ true) (filter test xs) x (filter_passes test xs) i)

-- an element that passes is a chosen one
pub to_filter : {A : Type 0} (test : A → Bool) (xs : List A) (x : A) → Contains xs x → test x ≡ true → Contains (filter test xs) x
to_filter test [] x i p = no_member i
to_filter test (y ∷ ys) x i p = by_test (test y) refl (first_or_later y ys x i) (λ j. to_filter test ys x j p)
  where
    by_test : (b : Bool) → test y ≡ b → (y ≡ x) ⊎ Contains ys x → (Contains ys x → Contains (filter test ys) x) → Contains (if b then y ∷ filter test ys else filter test ys) x
    by_test true t (inl e) again = first_member _ e
    by_test true t (inr j) again = later_member _ (again j)
    by_test false t (inl e) again = absurd (cc)
    by_test false t (inr j) again = again j

-- ---- images

pub to_map : {A B : Type 0} (f : A → B) (xs : List A) (x : A) → Contains xs x → Contains (map f xs) (f x)
to_map f xs x i = (i.0, omega (arith, length-map xs f, i.1), get_or-map f xs i.0 x (f x) i.1 ∙ ap f i.2)

pub from_map : {A B : Type 0} (f : A → B) (xs : List A) (y : B) → Contains (map f xs) y → (x : A) × Contains xs x × (f x ≡ y)
from_map {A} {B} f xs y = All-contains Image (map f xs) y (All-map Image f xs (λ k d l. (get_or xs k d, Contains-get_or xs k d l, refl)))
  where
    Image : B → Type 0
    Image z = (x : A) × Contains xs x × (f x ≡ z)

pub map_same : {A B : Type 0} (f g : A → B) (xs : List A) → ((x : A) → Contains xs x → f x ≡ g x) → map f xs ≡ map g xs
map_same f g [] h = refl
map_same f g (x ∷ xs) h = ap (λ y. y ∷ map f xs) (h x (first_member _ refl)) ∙ ap (λ ys. g x ∷ ys) (map_same f g xs (λ y i. h y (later_member _ i)))

-- ---- ascending numbers

-- the numbers of the chosen elements ascend, as those of all do
pub rises_filter : {A : Type 0} (f : A → ℕ) (test : A → Bool) (low : ℕ) (xs : List A) → Rises low (map f xs) → Rises low (map f (filter test xs))
rises_filter f test low [] r = tt
rises_filter f test low (x ∷ xs) r = by_test (test x) (rises_filter f test (suc (f x)) xs r.1)
  where
    by_test : (b : Bool) → Rises (suc (f x)) (map f (filter test xs)) → Rises low (map f (if b then x ∷ filter test xs else filter test xs))
    by_test true s = (r.0, s)
    by_test false s = let l : low ≤ suc (f x) = omega (arith, r.0) in rises_lower low (suc (f x)) (map f (filter test xs)) l s

-- an element of a list of lists joined is one of one of them
pub from_flat_map : {A B : Type 0} (f : A → List B) (xs : List A) (b : B) → Contains (flat_map f xs) b → (x : A) × Contains xs x × Contains (f x) b
from_flat_map f [] b i = no_member i
from_flat_map f (x ∷ xs) b i =
    ⊎_elim
    (λ j. (x, first_member _ refl, j))
    (λ j. let r = from_flat_map f xs b j in (r.0, later_member _ r.1, r.2))
    (Contains-append_cases (f x) (flat_map f xs) b i)

pub from_one_if : {A : Type 0} (t : Bool) (a x : A) → Contains (one_if t a) x → (x ≡ a) × (t ≡ true)
from_one_if true a x i = (sym (only_member a x i), refl)
from_one_if false a x i = no_member i

-- ---- tests of all elements and of some

pub any_in : {A : Type 0} (test : A → Bool) (xs : List A) → list_any test xs ≡ true → (x : A) × Contains xs x × (test x ≡ true)
any_in test xs e = let some = Any-from_list_any test xs e in (some.1, (some.0, some.2, some.3), some.4)

pub any_from : {A : Type 0} (test : A → Bool) (xs : List A) (x : A) → Contains xs x → test x ≡ true → list_any test xs ≡ true
any_from test xs x i t = list_any-from_Any test xs (i.0, x, i.1, i.2, t)

pub any_none : {A : Type 0} (test : A → Bool) (xs : List A) (x : A) → list_any test xs ≡ false → Contains xs x → test x ≡ false
any_none test xs x e i = by_test (test x) refl
  where
    by_test : (b : Bool) → test x ≡ b → b ≡ false
    by_test true t = let some = any_from test xs x i t in absurd (cc)
    by_test false t = refl

pub all_from : {A : Type 0} (test : A → Bool) (xs : List A) → ((x : A) → Contains xs x → test x ≡ true) → list_all test xs ≡ true
all_from test xs f = list_all-from_AllPass test xs (λ k d l. f (get_or xs k d) (Contains-get_or xs k d l))

pub all_in : {A : Type 0} (test : A → Bool) (xs : List A) (x : A) → list_all test xs ≡ true → Contains xs x → test x ≡ true
all_in test xs x e i = All-contains (λ y. test y ≡ true) xs x (AllPass-from_list_all test xs e) i

-- elements with the same number in a list that ascends are the same
pub unique_in : {A : Type 0} (f : A → ℕ) (low : ℕ) (xs : List A) (x y : A) → Rises low (map f xs) → Contains xs x → Contains xs y → f x ≡ f y → x ≡ y
unique_in f low [] x y r i j e = no_member i
unique_in f low (z ∷ xs) x y r i j e = by_places (first_or_later z xs x i) (first_or_later z xs y j) (λ g h. unique_in f (suc (f z)) xs x y r.1 g h e)
  where
    by_places : (z ≡ x) ⊎ Contains xs x → (z ≡ y) ⊎ Contains xs y → (Contains xs x → Contains xs y → x ≡ y) → x ≡ y
    by_places (inl g) (inl h) again = sym g ∙ h
    by_places (inl g) (inr h) again = let above = rises_from (suc (f z)) (map f xs) (f y) r.1 (to_map f xs y h) in absurd (omega (arith, above, e, ap f g))
    by_places (inr g) (inl h) again = let above = rises_from (suc (f z)) (map f xs) (f x) r.1 (to_map f xs x g) in absurd (omega (arith, above, e, ap f h))
    by_places (inr g) (inr h) again = again g h
