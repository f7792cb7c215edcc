use Rattle.std.proofs.Common.{◌≡◌, ℕ, zero, suc, ◌+◌, ◌<◌, ◌≤◌, ◌⊎◌, inl, inr, false, ◌==◌, ◌||◌, ap, eqb-true, List, [], ◌∷◌, ◌++◌, length, Option, None, Some, slice_get, Contains, get_or, refl, sym, subst, arith, IsTrue, nat_lt}
use Rattle.std.specs.List.{flat_map, list_any, AllByRecursion}
use Rattle.std.specs.Option.{option_and_then, option_map_or}
use Rattle.std.proofs.lemmas.List.Elements.{Contains-append_cases}
use Rattle.std.proofs.lemmas.Map.Views.{Contains-from_any}
use Rattle.std.proofs.lemmas.Option.{slice_get-get_or}
use Rattle.viz_base.specs.Trees.{ascends, has_box, is_in_parent}
use Rattle.viz_base.specs.declared.trees.BoxNode.{BoxNode}
use Rattle.viz_base.specs.declared.trees.BoxTree.{BoxTree}
use Rattle.viz_base.proofs.ListLemmas.{slice_some, in_flat_map}
use Rattle.layout_semantics.specs.Order.{kids_of, order_to, document_order, roots, page_order, IsOnPage}
use Rattle.layout_semantics.specs.Blocks.{parent_of}
use Rattle.layout_semantics.proofs.Forest.{IsForest, IsKid, IsForest-from, both, ascends-each}

pub root-alone : (tree : BoxTree) → parent_of tree.boxes 0 ≡ None
root-alone tree = by_box (slice_get tree.boxes 0) refl
  where
    by_box : (o : Option BoxNode) → slice_get tree.boxes 0 ≡ o → option_and_then (λ (b : BoxNode). b.parent) o ≡ None
    by_box None e = refl
    by_box (Some b) e = tree.ok.root b e

pub forest : (tree : BoxTree) → IsForest tree.boxes
forest tree = IsForest-from tree.boxes tree.styles tree.fonts tree.parents tree.ok

-- ---- members

pub Each-contains : (P : ℕ → Type 0) (ks : List ℕ) (k : ℕ) → AllByRecursion P ks → Contains ks k → P k
Each-contains P [] k a (i, l, e) = absurd (omega arith)
Each-contains P (j ∷ ks) k a (zero, l, e) = subst P e a.0
Each-contains P (j ∷ ks) k a (suc i, l, e) = Each-contains P ks k a.1 (i, omega arith, e)

-- the first of a list, or one of the others
cons_cases : (x : ℕ) (xs : List ℕ) (y : ℕ) → Contains (x ∷ xs) y → (x ≡ y) ⊎ Contains xs y
cons_cases x xs y (zero, l, e) = inl e
cons_cases x xs y (suc i, l, e) = inr (i, omega arith, e)

Contains-first : (x : ℕ) (xs : List ℕ) → Contains (x ∷ xs) x
Contains-first x xs = (0, omega arith, refl)

Contains-later : (x : ℕ) (xs : List ℕ) (y : ℕ) → Contains xs y → Contains (x ∷ xs) y
Contains-later x xs y (i, l, e) = (suc i, omega arith, e)

-- what one of several lists has
from_flat_map : (f : ℕ → List ℕ) (ks : List ℕ) (x : ℕ) → Contains (flat_map f ks) x → (k : ℕ) × Contains ks k × Contains (f k) x
from_flat_map f [] x (i, l, e) = absurd (omega arith)
from_flat_map f (j ∷ ks) x c = by_part (Contains-append_cases (f j) (flat_map f ks) x c) (λ rest. from_flat_map f ks x rest)
  where
    by_part : Contains (f j) x ⊎ Contains (flat_map f ks) x → (Contains (flat_map f ks) x → (k : ℕ) × Contains ks k × Contains (f k) x) → (k : ℕ) × Contains (j ∷ ks) k × Contains (f k) x
    by_part (inl own) again = (j, Contains-first j ks, own)
    by_part (inr rest) again = let found = again rest in (found.0, Contains-later j ks found.0 found.1, found.2)

-- ---- each box of the page, and no other

on_page : (n : ℕ) (boxes : List BoxNode) (at x : ℕ) → IsOnPage boxes at → Contains (order_to n boxes at) x → IsOnPage boxes x
unfolding order_to
on_page zero boxes at x p (i, l, e) = absurd (omega arith)
on_page (suc n) boxes at x p c =
    by_part (cons_cases at (flat_map (order_to n boxes) (kids_of boxes at)) x c)
    (λ k own q. on_page n boxes k x q own)
  where
    by_part : (at ≡ x) ⊎ Contains (flat_map (order_to n boxes) (kids_of boxes at)) x → ((k : ℕ) → Contains (order_to n boxes k) x → IsOnPage boxes k → IsOnPage boxes x) → IsOnPage boxes x
    by_part (inl same) again = subst (IsOnPage boxes) same p
    by_part (inr below) again = let found = from_flat_map (order_to n boxes) (kids_of boxes at) x below in again found.0 found.2 (IsOnPage.inside at found.0 p found.1)

order_to-first : (n : ℕ) (boxes : List BoxNode) (at : ℕ) → 0 < n → Contains (order_to n boxes at) at
unfolding order_to
order_to-first zero boxes at l = absurd (omega arith)
order_to-first (suc n) boxes at l = Contains-first at (flat_map (order_to n boxes) (kids_of boxes at))

-- with each box document order has those in it
order_to-kid : (n : ℕ) (boxes : List BoxNode) (at x kid : ℕ) → IsForest boxes → length boxes ≤ n + at → Contains (order_to n boxes at) x → Contains (kids_of boxes x) kid → Contains (order_to n boxes at) kid
unfolding order_to
order_to-kid zero boxes at x kid t l (i, m, e) k = absurd (omega arith)
order_to-kid (suc n) boxes at x kid t l c k =
    Contains-later at (flat_map (order_to n boxes) (kids_of boxes at)) kid
    (by_part (cons_cases at (flat_map (order_to n boxes) (kids_of boxes at)) x c)
    (λ j m own. order_to-kid n boxes j x kid t m own k))
  where
    by_part : (at ≡ x) ⊎ Contains (flat_map (order_to n boxes) (kids_of boxes at)) x → ((j : ℕ) → length boxes ≤ n + j → Contains (order_to n boxes j) x → Contains (order_to n boxes j) kid) → Contains (flat_map (order_to n boxes) (kids_of boxes at)) kid
    by_part (inl same) again =
        let own = subst (λ z. Contains (kids_of boxes z) kid) (sym same) k in
        let fact = Each-contains (IsKid boxes at) (kids_of boxes at) kid (t.kids at) own in
        let after = fact.after in
        let within = fact.within in
        in_flat_map (order_to n boxes) (kids_of boxes at) kid kid own (order_to-first n boxes kid (omega arith))
    by_part (inr below) again =
        let found = from_flat_map (order_to n boxes) (kids_of boxes at) x below in
        let after = (Each-contains (IsKid boxes at) (kids_of boxes at) found.0 (t.kids at) found.1).after in
        in_flat_map (order_to n boxes) (kids_of boxes at) found.0 kid found.1 (again found.0 (omega arith) found.2)

-- the root is the first box
pub root_place : (boxes : List BoxNode) (at : ℕ) → Contains (roots boxes) at → (0 ≡ at) × (0 < length boxes)
root_place [] at (i, l, e) = absurd (omega arith)
root_place (b ∷ bs) at (zero, l, e) = (e, omega arith)
root_place (b ∷ bs) at (suc i, l, e) = absurd (omega arith)

-- what is on a page is one of its boxes
pub within-page : (tree : BoxTree) (x : ℕ) → IsOnPage tree.boxes x → x < length tree.boxes
within-page tree x (IsOnPage.root at c) = let place = root_place tree.boxes at c in let same = place.0 in let some = place.1 in omega (arith, same, some)
within-page tree x (IsOnPage.inside at kid p k) = (Each-contains (IsKid tree.boxes at) (kids_of tree.boxes at) kid ((forest tree).kids at) k).within

first_root : (boxes : List BoxNode) → 0 < length boxes → Contains (roots boxes) 0
first_root [] l = absurd (omega (arith, l))
first_root (b ∷ bs) l = (0, omega arith, refl)

all-on-page_to : (tree : BoxTree) (n k : ℕ) → k < n → k < length tree.boxes → IsOnPage tree.boxes k
all-on-page_to tree zero k l h = absurd (omega (arith, l))
all-on-page_to tree (suc n) k l h =
    let b = slice_some tree.boxes k h in
    by_parent b.0.parent (tree.ok.in_parents k b.0 b.1) (λ j m g. all-on-page_to tree n j m g)
  where
    by_outer : (o : Option BoxNode) → IsTrue (option_map_or (λ (outer : BoxNode). list_any (λ j. k == j) outer.kids) o false) → Contains (option_map_or (λ (outer : BoxNode). outer.kids) o []) k
    by_outer None t = absurd (cc)
    by_outer (Some outer) t = Contains-from_any eqb-true k outer.kids t

    by_parent : (o : Option ℕ) → IsTrue (is_in_parent tree.boxes k o) → ((j : ℕ) → j < n → j < length tree.boxes → IsOnPage tree.boxes j) → IsOnPage tree.boxes k
    by_parent None t again = subst (IsOnPage tree.boxes) (sym (eqb-true k 0 t)) (IsOnPage.root 0 (first_root tree.boxes (omega (arith, h))))
    by_parent (Some p) t again =
        let inside = by_outer (slice_get tree.boxes p) t in
        let after = (Each-contains (IsKid tree.boxes p) (kids_of tree.boxes p) k ((forest tree).kids p) inside).after in
        IsOnPage.inside p k (again p (omega (arith, after, l)) (omega (arith, after, h))) inside

pub all-on-page : (tree : BoxTree) (k : ℕ) → k < length tree.boxes → IsOnPage tree.boxes k
all-on-page tree k h = all-on-page_to tree (suc k) k (omega arith) h

-- the first node has a box
pub first-boxed : (tree : BoxTree) → 0 < length tree.boxes → IsTrue (has_box tree.boxes 0)
first-boxed tree l = by_boxes tree.boxes refl l
  where
    by_boxes : (boxes : List BoxNode) → tree.boxes ≡ boxes → 0 < length boxes → IsTrue (has_box boxes 0)
    by_boxes [] e l = absurd (omega (arith, l))
    by_boxes (b ∷ bs) e l = let same = tree.ok.root_node b (ap (λ (x : List BoxNode). slice_get x 0) e) in ap (λ n. (n == 0) || has_box bs 0) same

pub placed_on_page : (boxes : List BoxNode) (x : ℕ) → Contains (page_order boxes) x → IsOnPage boxes x
placed_on_page boxes x c =
    let found = from_flat_map (document_order boxes) (roots boxes) x c in
    on_page (length boxes) boxes found.0 x (IsOnPage.root found.0 found.1) found.2

pub page_placed : (boxes : List BoxNode) (x : ℕ) → IsForest boxes → IsOnPage boxes x → Contains (page_order boxes) x
page_placed boxes x t (IsOnPage.root at c) =
    let place = root_place boxes at c in
    in_flat_map (document_order boxes) (roots boxes) at at c (order_to-first (length boxes) boxes at place.1)
page_placed boxes x t (IsOnPage.inside at kid p k) =
    let found = from_flat_map (document_order boxes) (roots boxes) at (page_placed boxes at t p) in
    in_flat_map (document_order boxes) (roots boxes) found.0 kid found.1 (order_to-kid (length boxes) boxes found.0 at kid t (omega arith) found.2 k)

-- ---- no box twice

-- a box is under another
data Under (boxes : List BoxNode) (k : ℕ) : ℕ → Type 0 where
  here : (x : ℕ) → k ≡ x → Under boxes k x
  below : (p x : ℕ) → Under boxes k p → IsKid boxes p x → Under boxes k x

not_above : (boxes : List BoxNode) (k x : ℕ) → Under boxes k x → k ≤ x
not_above boxes k x (here y e) = omega arith
not_above boxes k x (below p y u i) = let up = not_above boxes k p u in let after = i.after in omega arith

under-kid : (boxes : List BoxNode) (at k x : ℕ) → IsKid boxes at k → Under boxes k x → Under boxes at x
under-kid boxes at k x i (here y e) = subst (Under boxes at) e (below at k (here at refl) i)
under-kid boxes at k x i (below p y u j) = below p y (under-kid boxes at k p i u) j

in_order : (n : ℕ) (boxes : List BoxNode) (at x : ℕ) → IsForest boxes → Contains (order_to n boxes at) x → Under boxes at x
unfolding order_to
in_order zero boxes at x t (i, l, e) = absurd (omega arith)
in_order (suc n) boxes at x t c =
    by_part (cons_cases at (flat_map (order_to n boxes) (kids_of boxes at)) x c) (λ k own. in_order n boxes k x t own)
  where
    by_part : (at ≡ x) ⊎ Contains (flat_map (order_to n boxes) (kids_of boxes at)) x → ((k : ℕ) → Contains (order_to n boxes k) x → Under boxes k x) → Under boxes at x
    by_part (inl same) again = here x same
    by_part (inr lower) again =
        let found = from_flat_map (order_to n boxes) (kids_of boxes at) x lower in
        under-kid boxes at found.0 x (Each-contains (IsKid boxes at) (kids_of boxes at) found.0 (t.kids at) found.1) (again found.0 found.2)

-- of two boxes above a third, one is under the other
one_line : (boxes : List BoxNode) (j k x : ℕ) → Under boxes j x → Under boxes k x → Under boxes j k ⊎ Under boxes k j
one_line boxes j k x (here y e) u = inr (subst (Under boxes k) (sym e) u)
one_line boxes j k x (below p y u i) v = by_other v (λ w. one_line boxes j k p u w)
  where
    by_other : Under boxes k x → (Under boxes k p → Under boxes j k ⊎ Under boxes k j) → Under boxes j k ⊎ Under boxes k j
    by_other (here z f) again = inl (subst (Under boxes j) (sym f) (below p x u i))
    by_other (below q z w h) again =
        let one = i.parent in
        let other = h.parent in
        let same : q ≡ p = cc in
        again (subst (Under boxes k) same w)

-- two boxes of one parent have none in common
under_apart : (boxes : List BoxNode) (at j k : ℕ) → IsKid boxes at j → IsKid boxes at k → j < k → Under boxes j k → ⊥
under_apart boxes at j k a b l (here y e) = omega arith
under_apart boxes at j k a b l (below p y u i) =
    let one = i.parent in
    let other = b.parent in
    let same : p ≡ at = cc in
    let up = not_above boxes j at (subst (Under boxes j) same u) in
    let after = a.after in
    omega arith

apart : (boxes : List BoxNode) (at j k x : ℕ) → IsKid boxes at j → IsKid boxes at k → j < k → Under boxes j x → Under boxes k x → ⊥
apart boxes at j k x a b l u v = by_line (one_line boxes j k x u v)
  where
    by_line : Under boxes j k ⊎ Under boxes k j → ⊥
    by_line (inl w) = under_apart boxes at j k a b l w
    by_line (inr w) = let up = not_above boxes k j w in omega arith

abbrev Distinct : List ℕ → Type 0
Distinct [] = Unit {0}
Distinct (x ∷ xs) = (Contains xs x → ⊥) × Distinct xs

Distinct-append : (xs ys : List ℕ) → Distinct xs → Distinct ys → ((x : ℕ) → Contains xs x → Contains ys x → ⊥) → Distinct (xs ++ ys)
Distinct-append [] ys a b d = b
Distinct-append (x ∷ xs) ys a b d = (
  λ c. by_part (Contains-append_cases xs ys x c),
  Distinct-append xs ys a.1 b (λ y i j. d y (Contains-later x xs y i) j),
)
  where
    by_part : Contains xs x ⊎ Contains ys x → ⊥
    by_part (inl own) = a.0 own
    by_part (inr other) = d x (Contains-first x xs) other

-- the orders of boxes of one parent that ascend
Distinct-kids : (n : ℕ) (boxes : List BoxNode) (at low : ℕ) (ks : List ℕ) → IsForest boxes → ((k : ℕ) → Distinct (order_to n boxes k)) → IsTrue (ascends low ks) → AllByRecursion (IsKid boxes at) ks → Distinct (flat_map (order_to n boxes) ks)
Distinct-kids n boxes at low [] t each r a = tt
Distinct-kids n boxes at low (k ∷ ks) t each r a =
    let parts = both (nat_lt low k) (ascends k ks) r in
    Distinct-append (order_to n boxes k) (flat_map (order_to n boxes) ks) (each k) (Distinct-kids n boxes at k ks t each parts.1 a.1)
    (λ x c d.
    let found = from_flat_map (order_to n boxes) ks x d in
    apart boxes at k found.0 x a.0 (Each-contains (IsKid boxes at) ks found.0 a.1 found.1)
    (Each-contains (λ j. k < j) ks found.0 (ascends-each k ks parts.1) found.1)
    (in_order n boxes k x t c) (in_order n boxes found.0 x t found.2))

Distinct-order : (n : ℕ) (boxes : List BoxNode) (at : ℕ) → IsForest boxes → Distinct (order_to n boxes at)
unfolding order_to
Distinct-order zero boxes at t = tt
Distinct-order (suc n) boxes at t = (
  λ c.
      let found = from_flat_map (order_to n boxes) (kids_of boxes at) at c in
      let after = (Each-contains (IsKid boxes at) (kids_of boxes at) found.0 (t.kids at) found.1).after in
      let up = not_above boxes found.0 at (in_order n boxes found.0 at t found.2) in
      omega arith,
  Distinct-kids n boxes at at (kids_of boxes at) t (λ k. Distinct-order n boxes k t) (t.rising at) (t.kids at),
)

Distinct-places : (xs : List ℕ) (i j : ℕ) → Distinct xs → i < j → j < length xs → slice_get xs i ≡ slice_get xs j → ⊥
Distinct-places [] i j d l m e = omega arith
Distinct-places (x ∷ xs) zero zero d l m e = omega arith
Distinct-places (x ∷ xs) zero (suc j) d l m e =
    let read = slice_get-get_or xs j x (omega arith) in
    let same : get_or xs j x ≡ x = cc in
    d.0 (j, omega arith, same)
Distinct-places (x ∷ xs) (suc i) zero d l m e = omega arith
Distinct-places (x ∷ xs) (suc i) (suc j) d l m e = Distinct-places xs i j d.1 (omega arith) (omega arith) e

pub page-distinct : (boxes : List BoxNode) (i j : ℕ) → IsForest boxes → i < j → j < length (page_order boxes) → slice_get (page_order boxes) i ≡ slice_get (page_order boxes) j → ⊥
page-distinct boxes i j t = Distinct-places (page_order boxes) i j (by_boxes boxes)
  where
    by_boxes : (bs : List BoxNode) → Distinct (flat_map (document_order boxes) (roots bs))
    by_boxes [] = tt
    by_boxes (b ∷ bs) = Distinct-append (document_order boxes 0) [] (Distinct-order (length boxes) boxes 0 t) tt (λ x c (i, l, e). omega arith)
