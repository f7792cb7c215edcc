-- The greatest and the least of a number and of a list, where facts are said of all members of the list.
use Rattle.std.proofs.Common.{◌≡◌, ℤ, ◌≤ℤ◌, Bool, IsTrue, List, [], ◌∷◌, Contains, map, filter, refl, sym, subst, inl, inr, ◌⊎◌, ⊎_elim}
use Rattle.std.specs.List.{AllByRecursion}
use Rattle.viz_base.proofs.ListLemmas.{later_member}
use Rattle.layout_semantics.specs.Extremes.{greatest_from, least_from}
use Rattle.layout_semantics.specs.Preferred.{greatest}
use Rattle.layout_laws.specs.Greatest.{IsGreatestOf}
use Rattle.layout_laws.proofs.Members.{no_member, first_member, first_or_later, from_filter, to_filter, to_map, from_map}
use Rattle.layout_laws.proofs.Extremes.{below_greatest, start_below_greatest, greatest_at_most, greatest_is_one, above_least, start_above_least, least_at_least, least_is_one}

-- ---- all members

pub All-from : {A : Type 0} (P : A → Type 0) (xs : List A) → ((x : A) → Contains xs x → P x) → AllByRecursion P xs
All-from P [] each = tt
All-from P (x ∷ xs) each = (each x (first_member xs refl), All-from P xs (λ y i. each y (later_member xs i)))

pub All-at : {A : Type 0} (P : A → Type 0) (xs : List A) (x : A) → AllByRecursion P xs → Contains xs x → P x
All-at P [] x a i = no_member i
All-at P (y ∷ ys) x a i = ⊎_elim (λ e. subst P e a.0) (λ j. All-at P ys x a.1 j) (first_or_later y ys x i)

pub filter-implied : {A : Type 0} (P Q : A → Type 0) (q : A → Bool) (xs : List A) → ((x : A) → P x → IsTrue (q x) → Q x) → AllByRecursion P xs → AllByRecursion Q (filter q xs)
filter-implied P Q q xs f a = All-from Q (filter q xs) (λ x i. let h = from_filter q xs x i in f x (All-at P xs x a h.0) h.1)

pub filter-all : {A : Type 0} (P : A → Type 0) (q : A → Bool) (xs : List A) → AllByRecursion P (filter q xs) → AllByRecursion (λ x. IsTrue (q x) → P x) xs
filter-all P q xs a = All-from (λ x. IsTrue (q x) → P x) xs (λ x i t. All-at P (filter q xs) x a (to_filter q xs x i t))

pub filter-passes : {A : Type 0} (q : A → Bool) (xs : List A) → AllByRecursion (λ x. IsTrue (q x)) (filter q xs)
filter-passes q xs = All-from (λ x. IsTrue (q x)) (filter q xs) (λ x i. (from_filter q xs x i).1)

pub All-map : {A B : Type 0} (P : B → Type 0) (f : A → B) (xs : List A) → AllByRecursion P (map f xs) → AllByRecursion (λ x. P (f x)) xs
All-map P f xs a = All-from (λ x. P (f x)) xs (λ x i. All-at P (map f xs) (f x) a (to_map f xs x i))

-- ---- the greatest and the least

pub greatest_from-bound : (a : ℤ) (xs : List ℤ) → AllByRecursion (λ x. x ≤ℤ greatest_from a xs) xs
greatest_from-bound a xs = All-from (λ x. x ≤ℤ greatest_from a xs) xs (below_greatest a xs)

pub least_from-bound : (a : ℤ) (xs : List ℤ) → AllByRecursion (λ x. least_from a xs ≤ℤ x) xs
least_from-bound a xs = All-from (λ x. least_from a xs ≤ℤ x) xs (above_least a xs)

pub greatest_from-least : (a : ℤ) (xs : List ℤ) (m : ℤ) → a ≤ℤ m → AllByRecursion (λ x. x ≤ℤ m) xs → greatest_from a xs ≤ℤ m
greatest_from-least a xs m l all = greatest_at_most a xs m l (λ x i. All-at (λ x. x ≤ℤ m) xs x all i)

-- what holds of a number and of each of a list holds of the greatest and of the least of them
by_one : (P : ℤ → Type 0) (a m : ℤ) (xs : List ℤ) → (m ≡ a) ⊎ Contains xs m → P a → AllByRecursion P xs → P m
by_one P a m xs (inl e) one all = subst P (sym e) one
by_one P a m xs (inr i) one all = All-at P xs m all i

pub greatest_from-any : (P : ℤ → Type 0) (a : ℤ) (xs : List ℤ) → P a → AllByRecursion P xs → P (greatest_from a xs)
greatest_from-any P a xs = by_one P a (greatest_from a xs) xs (greatest_is_one a xs)

pub least_from-any : (P : ℤ → Type 0) (a : ℤ) (xs : List ℤ) → P a → AllByRecursion P xs → P (least_from a xs)
least_from-any P a xs = by_one P a (least_from a xs) xs (least_is_one a xs)

pub greatest-is : (xs : List ℤ) → IsGreatestOf xs (greatest xs)
greatest-is [] = record { bound = tt; reached = inl (refl, refl) }
greatest-is (x ∷ xs) = record { bound = (start_below_greatest x xs, greatest_from-bound x xs); reached = inr (by (greatest_is_one x xs)) }
  where
    by : (greatest_from x xs ≡ x) ⊎ Contains xs (greatest_from x xs) → Contains (x ∷ xs) (greatest_from x xs)
    by (inl e) = first_member xs (sym e)
    by (inr i) = later_member xs i

-- ---- of fewer members

pub greatest-subset : (a : ℤ) (xs ys : List ℤ) → ((x : ℤ) → Contains xs x → Contains ys x) → greatest_from a xs ≤ℤ greatest_from a ys
greatest-subset a xs ys f = greatest_at_most a xs (greatest_from a ys) (start_below_greatest a ys) (λ x i. below_greatest a ys x (f x i))

pub least-subset : (a : ℤ) (xs ys : List ℤ) → ((x : ℤ) → Contains xs x → Contains ys x) → least_from a ys ≤ℤ least_from a xs
least-subset a xs ys f = least_at_least a xs (least_from a ys) (start_above_least a ys) (λ x i. above_least a ys x (f x i))

-- a list of members has no greater one
pub greatest_from-fewer : {A : Type 0} (f : A → ℤ) (a : ℤ) (all xs : List A) → AllByRecursion (Contains all) xs → greatest_from a (map f xs) ≤ℤ greatest_from a (map f all)
greatest_from-fewer f a all xs i = greatest-subset a (map f xs) (map f all)
    (λ y j. let s = from_map f xs y j in subst (Contains (map f all)) s.2 (to_map f all s.0 (All-at (Contains all) xs s.0 i s.1)))
