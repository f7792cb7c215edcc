-- Lemmas on lists that many crates use, and std does not have.
use Rattle.std.proofs.Common.{◌≡◌, ℕ, ◌<◌, ◌≤◌, ◌+◌, suc, zero, arith, refl, ap, sym, subst, ◌∙◌, List, [], ◌∷◌, ◌++◌, length, drop, zip, Option, Some, Contains, get_or}
use Rattle.std.specs.List.{AllByRecursion, slice_get, flat_map}
use Rattle.std.proofs.lemmas.List.{drop_more}
use Rattle.std.proofs.lemmas.List.Elements.{Contains-append_left, Contains-append_right}
use Rattle.viz_base.specs.Orders.{Rises}

pub all_append : {A : Type 0} (P : A → Type 0) (xs ys : List A) → AllByRecursion P xs → AllByRecursion P ys → AllByRecursion P (xs ++ ys)
all_append P [] ys h k = k
all_append P (x ∷ xs) ys h k = (h.0, all_append P xs ys h.1 k)

pub all_parts : {A : Type 0} (P : A → Type 0) (xs ys : List A) → AllByRecursion P (xs ++ ys) → AllByRecursion P xs × AllByRecursion P ys
all_parts P [] ys h = (tt, h)
all_parts P (x ∷ xs) ys h = let rest = all_parts P xs ys h.1 in ((h.0, rest.0), rest.1)

-- a place within a list has an item
pub slice_some : {A : Type 0} (xs : List A) (k : ℕ) → k < length xs → (x : A) × (slice_get xs k ≡ Some x)
slice_some [] k l = absurd (omega (arith, l))
slice_some (x ∷ xs) zero l = (x, refl)
slice_some (x ∷ xs) (suc k) l = slice_some xs k (omega (arith, l))

-- what stands before a list's end stands there when more is behind it
pub get_before : {A : Type 0} (xs ys : List A) (k : ℕ) → k < length xs → slice_get (xs ++ ys) k ≡ slice_get xs k
get_before [] ys k l = absurd (omega (arith, l))
get_before (x ∷ xs) ys zero l = refl
get_before (x ∷ xs) ys (suc k) l = get_before xs ys k (omega (arith, l))

-- what stands behind a list is its last
pub get_last : {A : Type 0} (xs : List A) (x : A) → slice_get (xs ++ x ∷ []) (length xs) ≡ Some x
get_last [] x = refl
get_last (y ∷ xs) x = get_last xs x

-- a list from a place on begins with what stands there
pub drop_at : {A : Type 0} (xs : List A) (k : ℕ) (x : A) → k < length xs → x ≡ get_or xs k x → drop k xs ≡ x ∷ drop (k + 1) xs
drop_at xs k x l e = drop_more xs k x l ∙ ap (λ y. y ∷ drop (k + 1) xs) (sym e)

pub length_zip : {A B : Type 0} (xs : List A) (ys : List B) → length xs ≡ length ys → length (zip xs ys) ≡ length ys
length_zip [] [] e = refl
length_zip [] (y ∷ ys) e = absurd (omega (arith, e))
length_zip (x ∷ xs) [] e = absurd (omega (arith, e))
length_zip (x ∷ xs) (y ∷ ys) e = ap suc (length_zip xs ys (omega (arith, e)))

pub in_flat_map : {A B : Type 0} (f : A → List B) (xs : List A) (x : A) (y : B) → Contains xs x → Contains (f x) y → Contains (flat_map f xs) y
in_flat_map f [] x y (k, l, e) h = absurd (omega (arith, l))
in_flat_map f (z ∷ xs) x y (zero, l, e) h = Contains-append_left (f z) (flat_map f xs) y (subst (λ w. Contains (f w) y) (sym e) h)
in_flat_map f (z ∷ xs) x y (suc k, l, e) h = Contains-append_right (f z) (flat_map f xs) y (in_flat_map f xs x y (k, omega (arith, l), e) h)

pub later_member : {A : Type 0} {y x : A} (ys : List A) → Contains ys x → Contains (y ∷ ys) x
later_member ys i = (suc i.0, omega (arith, i.1), i.2)

-- ---- numbers that rise

pub rises_from : (low : ℕ) (ns : List ℕ) (n : ℕ) → Rises low ns → Contains ns n → low ≤ n
rises_from low [] n r h = absurd (omega (arith, h.1))
rises_from low (m ∷ ns) n r (zero, l, e) = subst (λ z. low ≤ z) e r.0
rises_from low (m ∷ ns) n r (suc k, l, e) = let h = rises_from (suc m) ns n r.1 (k, omega (arith, l), e) in omega (arith, h, r.0)

pub rises_lower : (low high : ℕ) (ns : List ℕ) → low ≤ high → Rises high ns → Rises low ns
rises_lower low high [] l r = tt
rises_lower low high (n ∷ ns) l r = (omega (arith, l, r.0), r.1)
