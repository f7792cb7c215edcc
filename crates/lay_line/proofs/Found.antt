-- Places found from left to right.
use Rattle.std.proofs.Common.{◌≡◌, ℕ, zero, suc, ◌+◌, ◌<◌, ◌≤◌, Bool, true, false, cond, List, [], ◌∷◌, drop, get_or, length, map, find, Some, None, sym, subst, ap, ◌∙◌, arith}
use Rattle.std.specs.Prelude.{ℤ}
use Rattle.std.specs.List.{AllByRecursion}
use Rattle.std.proofs.lemmas.List.{drop_more, at_drop_more, at_drop_all}
use Rattle.viz_base.proofs.ListLemmas.{drop_at}
use Rattle.layout_semantics.specs.Fragments.{ItemPlace, is_text_of, text_right}

module _ {A B : Type 0} (test : B → Bool) (f : A → B) (xs : List A) (k : ℕ) where
  step : (x : A) → k < length xs → x ≡ get_or xs k x → find test (map f (drop k xs)) ≡ cond (test (f x)) (Some (f x)) (find test (map f (drop (k + 1) xs)))
  step x l is = at_drop_more (λ ys. find test (map f ys)) xs k x l ∙ ap (λ y. cond (test (f y)) (Some (f y)) (find test (map f (drop (k + 1) xs)))) (sym is)

  pub found-here : (x : A) → k < length xs → x ≡ get_or xs k x → test (f x) ≡ true → Some (f x) ≡ find test (map f (drop k xs))
  found-here x l is e = sym (step x l is ∙ ap (λ b. cond b (Some (f x)) (find test (map f (drop (k + 1) xs)))) e)

  pub found-later : (x : A) → k < length xs → x ≡ get_or xs k x → test (f x) ≡ false → find test (map f (drop (k + 1) xs)) ≡ find test (map f (drop k xs))
  found-later x l is e = sym (step x l is ∙ ap (λ b. cond b (Some (f x)) (find test (map f (drop (k + 1) xs)))) e)

  pub found-none : length xs ≤ k → None ≡ find test (map f (drop k xs))
  found-none l = sym (at_drop_all (λ ys. find test (map f ys)) xs k l)

-- ---- where a piece of a text ends

module _ {A : Type 0} (at : ℕ) (f : A → ItemPlace) (xs : List A) (k : ℕ) (right : ℤ) where
  right-step : (x : A) → k < length xs → x ≡ get_or xs k x → text_right at right (map f (drop k xs)) ≡ cond (is_text_of at (f x)) (text_right at (f x).right (map f (drop (k + 1) xs))) right
  right-step x l is = at_drop_more (λ ys. text_right at right (map f ys)) xs k x l ∙ ap (λ y. cond (is_text_of at (f y)) (text_right at (f y).right (map f (drop (k + 1) xs))) right) (sym is)

  pub right-here : (x : A) → k < length xs → x ≡ get_or xs k x → is_text_of at (f x) ≡ false → right ≡ text_right at right (map f (drop k xs))
  right-here x l is e = sym (right-step x l is ∙ ap (λ b. cond b (text_right at (f x).right (map f (drop (k + 1) xs))) right) e)

  pub right-later : (x : A) → k < length xs → x ≡ get_or xs k x → is_text_of at (f x) ≡ true → text_right at (f x).right (map f (drop (k + 1) xs)) ≡ text_right at right (map f (drop k xs))
  right-later x l is e = sym (right-step x l is ∙ ap (λ b. cond b (text_right at (f x).right (map f (drop (k + 1) xs))) right) e)

-- ---- what holds of all that is left

all-later-suc : {A B : Type 0} (P : B → Type 0) (f : A → B) (xs : List A) (k : ℕ) → AllByRecursion P (map f (drop k xs)) → AllByRecursion P (map f (drop (suc k) xs))
all-later-suc P f [] zero a = tt
all-later-suc P f [] (suc k) a = tt
all-later-suc P f (x ∷ xs) zero a = a.1
all-later-suc P f (x ∷ xs) (suc k) a = all-later-suc P f xs k a

pub all-later : {A B : Type 0} (P : B → Type 0) (f : A → B) (xs : List A) (k : ℕ) → AllByRecursion P (map f (drop k xs)) → AllByRecursion P (map f (drop (k + 1) xs))
all-later P f xs k a = let one : suc k ≡ k + 1 = omega arith in subst (λ n. AllByRecursion P (map f (drop n xs))) one (all-later-suc P f xs k a)

-- ---- an item of a list

pub all-here : {A B : Type 0} (P : B → Type 0) (f : A → B) (xs : List A) (k : ℕ) (x : A) → k < length xs → x ≡ get_or xs k x → AllByRecursion P (map f (drop k xs)) → P (f x)
all-here {A} P f xs k x lt is a = (subst (λ (l : List A). AllByRecursion P (map f l)) (drop_at xs k x lt is) a).0

pub all-from : {A B : Type 0} (P : B → Type 0) (f : A → B) (xs : List A) (k : ℕ) → AllByRecursion P (map f xs) → AllByRecursion P (map f (drop k xs))
all-from P f [] zero a = a
all-from P f [] (suc k) a = tt
all-from P f (x ∷ xs) zero a = a
all-from P f (x ∷ xs) (suc k) a = all-from P f xs k a.1

pub all-next : {A B : Type 0} (P : B → Type 0) (f : A → B) (xs : List A) (k : ℕ) (d : A) → k < length xs → AllByRecursion P (map f (drop k xs)) → P (f (get_or xs k d))
all-next {A} P f xs k d lt a = (subst (λ (l : List A). AllByRecursion P (map f l)) (drop_more xs k d lt) a).0
