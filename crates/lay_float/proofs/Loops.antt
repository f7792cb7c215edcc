-- Loops over lists that go on from a state.
use Rattle.std.proofs.Common.{◌≡◌, ℕ, ◌+◌, ◌<◌, ◌≤◌, ℤ, Bool, true, false, ◌||◌, List, [], ◌∷◌, ◌++◌, drop, get_or, length, map, Option, None, refl, sym, ap, ◌∙◌}
use Rattle.std.proofs.Math.Bool.{or_assoc}
use Rattle.std.specs.Int.{int_max}
use Rattle.std.specs.List.{list_any}
use Rattle.std.proofs.lemmas.List.{at_drop_more, at_drop_all, map-append, append_assoc, append-nil}
use Rattle.viz_base.specs.declared.layouts.Band.{Band}
use Rattle.viz_base.specs.declared.styles.Clear.{Clear}
use Rattle.viz_base.specs.declared.styles.Clear.TheVariants as of_clear
use Rattle.viz_base.specs.declared.styles.Side.{Side}
use Rattle.layout_semantics.specs.Extremes.{greatest_from}
use Rattle.layout_semantics.specs.Floats.{FloatBox}
use Rattle.lay_float.specs.steps.Shelves.{Shelf, with_float, shelf_from, sooner, soonest}
use Rattle.lay_float.specs.steps.Bands.{room_beside, room_from, is_relevant_side, lower, lowest_from}
use Rattle.lay_float.proofs.Orders.{greatest-first}

-- with one item more the state is the next one
pub goes-on : {A S R : Type 0} (go : List A → S → R) (xs : List A) (k : ℕ) (x : A) (s next : S) → k < length xs → x ≡ get_or xs k x
    → go (x ∷ drop (k + 1) xs) s ≡ go (drop (k + 1) xs) next → go (drop (k + 1) xs) next ≡ go (drop k xs) s
goes-on go xs k x s next lt is step = sym step ∙ ap (λ y. go (y ∷ drop (k + 1) xs) s) is ∙ sym (at_drop_more (λ l. go l s) xs k x lt)

-- with all items it is the last one
pub ends : {A S R : Type 0} (go : List A → S → R) (xs : List A) (k : ℕ) (s : S) → length xs ≤ k → go [] s ≡ go (drop k xs) s
ends go xs k s le = sym (at_drop_all (λ l. go l s) xs k le)

pub shelf-step : (side : Side) (y : ℤ) (f : FloatBox) (fs : List FloatBox) (s next : Shelf) → next ≡ with_float side y s f → shelf_from side y (f ∷ fs) s ≡ shelf_from side y fs next
unfolding shelf_from
shelf-step side y f fs s next e = ap (shelf_from side y fs) (sym e)

pub shelf-end : (side : Side) (y : ℤ) (s : Shelf) → s ≡ shelf_from side y [] s
unfolding shelf_from
shelf-end side y s = refl

pub soonest-step : (y : ℤ) (f : FloatBox) (fs : List FloatBox) (s next : Option ℤ) → next ≡ sooner y s f → soonest y (f ∷ fs) s ≡ soonest y fs next
unfolding soonest
soonest-step y f fs s next e = ap (soonest y fs) (sym e)

pub soonest-end : (y : ℤ) (s : Option ℤ) → s ≡ soonest y [] s
unfolding soonest
soonest-end y s = refl

pub room-step : (y end : ℤ) (f : FloatBox) (fs : List FloatBox) (s next : Band ℤ) → next ≡ room_beside y end s f → room_from y end (f ∷ fs) s ≡ room_from y end fs next
unfolding room_from
room-step y end f fs s next e = ap (room_from y end fs) (sym e)

pub room-end : (y end : ℤ) (s : Band ℤ) → s ≡ room_from y end [] s
unfolding room_from
room-end y end s = refl

pub lowest-step : (clear : Clear) (f : FloatBox) (fs : List FloatBox) (s next : Option ℤ) → next ≡ lower clear s f → lowest_from clear (f ∷ fs) s ≡ lowest_from clear fs next
unfolding lowest_from
lowest-step clear f fs s next e = ap (lowest_from clear fs) (sym e)

pub lowest-end : (clear : Clear) (s : Option ℤ) → s ≡ lowest_from clear [] s
unfolding lowest_from
lowest-end clear s = refl

-- where `clear` looks at nothing there is no bottom
pub nothing-lower : (clear : Clear) (fs : List FloatBox) → clear ≡ of_clear.Nothing → None ≡ lowest_from clear fs None
unfolding lowest_from lower
nothing-lower clear [] e = refl
nothing-lower clear (f ∷ fs) e = rw e (nothing-lower clear fs e)

pub nothing-relevant : {A : Type 0} (clear : Clear) (side : A → Side) (xs : List A) → clear ≡ of_clear.Nothing → false ≡ list_any (λ x. is_relevant_side clear (side x)) xs
nothing-relevant clear side [] e = refl
nothing-relevant clear side (x ∷ xs) e = rw e (nothing-relevant clear side xs e)

-- ---- whether any item passes a test

pub any-passed : {A B : Type 0} (test : B → Bool) (b : A → B) (xs : List A) (k : ℕ) (x : A) → k < length xs → x ≡ get_or xs k x → false ≡ test (b x)
    → list_any test (map b (drop (k + 1) xs)) ≡ list_any test (map b (drop k xs))
any-passed test b xs k x lt is miss = sym (
    at_drop_more (λ l. list_any test (map b l)) xs k x lt
    ∙ ap (λ y. test (b y) || list_any test (map b (drop (k + 1) xs))) (sym is)
    ∙ ap (λ c. c || list_any test (map b (drop (k + 1) xs))) (sym miss))

-- one that passes is found
pub any-found : {A B : Type 0} (test : B → Bool) (b : A → B) (xs : List A) (k : ℕ) (x : A) → k < length xs → x ≡ get_or xs k x → true ≡ test (b x)
    → true ≡ list_any test (map b (drop k xs))
any-found test b xs k x lt is hit = sym (
    at_drop_more (λ l. list_any test (map b l)) xs k x lt
    ∙ ap (λ y. test (b y) || list_any test (map b (drop (k + 1) xs))) (sym is)
    ∙ ap (λ c. c || list_any test (map b (drop (k + 1) xs))) (sym hit))

-- behind the last item there is none
pub none-left : {A B : Type 0} (test : B → Bool) (b : A → B) (xs : List A) (k : ℕ) → length xs ≤ k → false ≡ list_any test (map b (drop k xs))
none-left test b xs k le = sym (at_drop_all (λ l. list_any test (map b l)) xs k le)

pub some-more : {A : Type 0} (test : A → Bool) (xs : List A) (k : ℕ) (x : A) (s next : Bool) → k < length xs → x ≡ get_or xs k x → next ≡ s || test x
    → (next || list_any test (drop (k + 1) xs)) ≡ (s || list_any test (drop k xs))
some-more test xs k x s next lt is e =
    ap (λ b. b || list_any test (drop (k + 1) xs)) e
    ∙ or_assoc s (test x) (list_any test (drop (k + 1) xs))
    ∙ ap (λ y. s || (test y || list_any test (drop (k + 1) xs))) is
    ∙ sym (at_drop_more (λ l. s || list_any test l) xs k x lt)

-- ---- the greatest of a list

pub greatest-step : (x : ℤ) (xs : List ℤ) (s next : ℤ) → next ≡ int_max x s → greatest_from s (x ∷ xs) ≡ greatest_from next xs
greatest-step x xs s next e = sym (ap (λ m. greatest_from m xs) e ∙ greatest-first x s xs)

-- ---- a list that is copied item by item

pub one-copied : {A B : Type 0} (b : A → B) (old new : List A) (x : A) (y : B) (rest : List B) → new ≡ old ++ x ∷ [] → b x ≡ y → map b new ++ rest ≡ map b old ++ (y ∷ rest)
one-copied b old new x y rest is same =
    ap (λ l. map b l ++ rest) is
    ∙ ap (λ l. l ++ rest) (map-append b old (x ∷ []))
    ∙ append_assoc (map b old) (b x ∷ []) rest
    ∙ ap (λ z. map b old ++ (z ∷ rest)) same

pub copied : {A B : Type 0} (b : A → B) (old new xs : List A) (k : ℕ) (x f : A) → k < length xs → f ≡ get_or xs k f → new ≡ old ++ x ∷ [] → b x ≡ b f
    → map b new ++ map b (drop (k + 1) xs) ≡ map b old ++ map b (drop k xs)
copied b old new xs k x f lt at is same =
    one-copied b old new x (b f) (map b (drop (k + 1) xs)) is same
    ∙ ap (λ z. map b old ++ (b z ∷ map b (drop (k + 1) xs))) at
    ∙ sym (at_drop_more (λ l. map b old ++ map b l) xs k f lt)

pub all-copied : {A B : Type 0} (b : A → B) (out xs : List A) (k : ℕ) → length xs ≤ k → map b out ≡ map b out ++ map b (drop k xs)
all-copied b out xs k le = sym (append-nil (map b out)) ∙ sym (at_drop_all (λ l. map b out ++ map b l) xs k le)
