-- The last item of a sort in a list: by recursion from the front, and in one pass.
use Rattle.std.proofs.Common.{◌≡◌, ℕ, suc, ◌+◌, Bool, true, false, cond, ◌||◌, List, [], ◌∷◌, reverse, refl, sym, ◌∙◌, ap, arith}
use Rattle.std.specs.List.{list_any}
use Rattle.std.proofs.lemmas.List.{reverse-append}
use Rattle.std.proofs.lemmas.List.Folds.{list_any-append}
use Rattle.layout_semantics.specs.InlineContent.{Item}
use Rattle.lay_line.specs.steps.Staying.{is_solid, no_items, spanned, fewer, is_some_left}

-- ---- lists

or-later : (a b : Bool) → (a || (b || false)) ≡ (b || a)
or-later true true = refl
or-later true false = refl
or-later false true = refl
or-later false false = refl

pub any-reversed : {A : Type 0} (p : A → Bool) (xs : List A) → list_any p (reverse xs) ≡ list_any p xs
any-reversed p [] = refl
any-reversed p (x ∷ xs) =
    ap (list_any p) (reverse-append (x ∷ []) xs)
    ∙ (list_any-append p (reverse xs) (x ∷ []) ∙ (or-later (list_any p (reverse xs)) (p x) ∙ ap (λ b. p x || b) (any-reversed p xs)))

-- ---- how many items there are up to the last that passes a test

abbrev pub last_where : (Item → Bool) → List Item → ℕ
last_where test [] = 0
last_where test (i ∷ items) = cond (test i || list_any test items) (suc (last_where test items)) 0

pub none-where : (test : Item → Bool) (items : List Item) → list_any test items ≡ false → last_where test items ≡ 0
none-where test [] e = refl
none-where test (i ∷ items) e = ap (λ b. cond b (suc (last_where test items)) 0) e

pub some-where : (test : Item → Bool) (items : List Item) → is_some_left (last_where test items) ≡ list_any test items
some-where test [] = refl
some-where test (i ∷ items) = by (test i || list_any test items)
  where
    by : (b : Bool) → is_some_left (cond b (suc (last_where test items)) 0) ≡ b
    by true = refl
    by false = refl

pub fewer-where : (test : Item → Bool) (i : Item) (items : List Item) → fewer (last_where test (i ∷ items)) ≡ last_where test items
fewer-where test i items = by (test i) (list_any test items) refl
  where
    by : (a b : Bool) → list_any test items ≡ b → fewer (cond (a || b) (suc (last_where test items)) 0) ≡ last_where test items
    by true b e = refl
    by false true e = refl
    by false false e = sym (none-where test items e)

-- with n before them
pub later : (b : Bool) (n m last : ℕ) → cond b (suc n + m) last ≡ cond b (n + cond b (suc m) 0) last
later true n m last = omega arith
later false n m last = refl

pub behind-first : (test : Item → Bool) (n : ℕ) (items : List Item) → cond (list_any test items) (suc n + last_where test items) (suc n) ≡ n + suc (last_where test items)
behind-first test n items = by (list_any test items) refl
  where
    by : (b : Bool) → list_any test items ≡ b → cond b (suc n + last_where test items) (suc n) ≡ n + suc (last_where test items)
    by true e = omega arith
    by false e = let none = none-where test items e in omega (arith, none)

-- ---- the pass over a line's items

solid-from : (n l : ℕ) (items : List Item) → (spanned (record { items = n; solid = l }) items).solid ≡ cond (list_any is_solid items) (n + last_where is_solid items) l
solid-from n l [] = refl
solid-from n l (i ∷ items) = by (is_solid i) (solid-from (suc n) (suc n) items) (solid-from (suc n) l items)
  where
    by : (b : Bool) → (spanned (record { items = suc n; solid = suc n }) items).solid ≡ cond (list_any is_solid items) (suc n + last_where is_solid items) (suc n)
        → (spanned (record { items = suc n; solid = l }) items).solid ≡ cond (list_any is_solid items) (suc n + last_where is_solid items) l
        → (spanned (record { items = suc n; solid = cond b (suc n) l }) items).solid ≡ cond (b || list_any is_solid items) (n + cond (b || list_any is_solid items) (suc (last_where is_solid items)) 0) l
    by true p q = p ∙ behind-first is_solid n items
    by false p q = q ∙ later (list_any is_solid items) n (last_where is_solid items) l

pub solid-same : (items : List Item) → (spanned no_items items).solid ≡ last_where is_solid items
solid-same items = solid-from 0 0 items ∙ by (list_any is_solid items) refl
  where
    by : (b : Bool) → list_any is_solid items ≡ b → cond b (0 + last_where is_solid items) 0 ≡ last_where is_solid items
    by true e = omega arith
    by false e = sym (none-where is_solid items e)
