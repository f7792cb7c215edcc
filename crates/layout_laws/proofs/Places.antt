-- The places of boxes: where each one stands in the list of boxes, and that places rise with nodes.
use Rattle.std.proofs.Common.{◌≡◌, ℕ, suc, ◌+◌, ◌<◌, ◌≤◌, Bool, true, false, nat_lt, List, [], ◌∷◌, ◌++◌, map, sum, flat_map, length, Some, slice_get, refl, sym, ◌∙◌, ap, subst, arith, if◌then◌else◌, zero-add, ltb-true, ltb-false, lt-ltb, le-ltb, ◌-◌, filter, Contains}
use Rattle.std.proofs.lemmas.List.Sums.{sum_by-cons}
use Rattle.viz_base.specs.declared.trees.BoxNode.{BoxNode}
use Rattle.viz_base.proofs.ListLemmas.{get_before, rises_from, later_member}
use Rattle.viz_base.specs.Orders.{Rises}
use Rattle.layout_semantics.specs.BoxTrees.{Item, box_count, is_before, boxes_before}
use Rattle.layout_laws.proofs.Members.{to_map, no_member, first_member, by_member}

abbrev pub node_of : Item → ℕ
node_of item = item.part.node

-- ---- how many boxes come before a node's

sum_cons : (n : ℕ) (ns : List ℕ) → sum (n ∷ ns) ≡ n + sum ns
sum_cons n ns = sum_by-cons (λ x. x) n ns

pub before_cons : (x : Item) (xs : List Item) (n : ℕ) → boxes_before (x ∷ xs) n ≡ (if is_before n x then box_count x else 0) + boxes_before xs n
before_cons x xs n = by_test (is_before n x)
  where
    by_test : (b : Bool) → sum (map box_count (if b then x ∷ filter (is_before n) xs else filter (is_before n) xs)) ≡ (if b then box_count x else 0) + boxes_before xs n
    by_test true = sum_cons (box_count x) (map box_count (filter (is_before n) xs))
    by_test false = sym (zero-add _)

pub before_later : (x : Item) (xs : List Item) (n : ℕ) → node_of x < n → boxes_before (x ∷ xs) n ≡ box_count x + boxes_before xs n
before_later x xs n l = before_cons x xs n ∙ ap (λ (b : Bool). (if b then box_count x else 0) + boxes_before xs n) (lt-ltb (node_of x) n l)

pub before_first : (x : Item) (xs : List Item) (n : ℕ) → n ≤ node_of x → boxes_before (x ∷ xs) n ≡ boxes_before xs n
before_first x xs n l = before_cons x xs n ∙ (ap (λ (b : Bool). (if b then box_count x else 0) + boxes_before xs n) (le-ltb (node_of x) n l) ∙ zero-add _)

pub before_none : (low : ℕ) (xs : List Item) (n : ℕ) → Rises low (map node_of xs) → n ≤ low → boxes_before xs n ≡ 0
before_none low [] n r l = refl
before_none low (x ∷ xs) n r l = let e : n ≤ node_of x = omega (arith, r.0) in let rest = before_none (suc (node_of x)) xs n r.1 (omega arith) in before_first x xs n e ∙ rest

-- ---- where the boxes of a node stand

slice_back : {A : Type 0} (xs ys : List A) (j : ℕ) → slice_get (xs ++ ys) (length xs + j) ≡ slice_get ys j
slice_back [] ys j = ap (slice_get ys) (zero-add j)
slice_back (x ∷ xs) ys j = let e : suc (length xs) + j ≡ suc (length xs + j) = omega arith in rw e (slice_back xs ys j)

module _ (f : Item → List BoxNode) (counts : (y : Item) → length (f y) ≡ box_count y) where
  pub box_at : (low : ℕ) (items : List Item) (x : Item) (j : ℕ) → Rises low (map node_of items) → Contains items x → j < length (f x) → slice_get (flat_map f items) (boxes_before items (node_of x) + j) ≡ slice_get (f x) j
  box_at low [] x j r i l = no_member i
  box_at low (y ∷ xs) x j r i l =
      by_member (λ z. j < length (f z) → slice_get (flat_map f (y ∷ xs)) (boxes_before (y ∷ xs) (node_of z) + j) ≡ slice_get (f z) j) y xs x i
      (λ h.
      let first = before_first y xs (node_of y) (omega arith) ∙ before_none (suc (node_of y)) xs (node_of y) r.1 (omega arith) in
      let none = zero-add j in
      rw (first, none) (get_before (f y) (flat_map f xs) j h))
      (λ k h.
      let after = rises_from (suc (node_of y)) (map node_of xs) (node_of x) r.1 (to_map node_of xs x k) in
      let later = before_later y xs (node_of x) (omega (arith, after)) in
      let c = counts y in
      let e : (box_count y + boxes_before xs (node_of x)) + j ≡ length (f y) + (boxes_before xs (node_of x) + j) = omega (arith, c) in
      rw (later, e) (slice_back (f y) (flat_map f xs) (boxes_before xs (node_of x) + j) ∙ box_at (suc (node_of y)) xs x j r.1 k h)) l

-- a box of the list is one of those at a node
pub record Found (f : Item → List BoxNode) (items : List Item) (at : ℕ) (b : BoxNode) : Type 0 where
  pub item : Item
  pub inside : Contains items item
  pub offset : ℕ
  pub place : at ≡ boxes_before items (node_of item) + offset
  pub is : slice_get (f item) offset ≡ Some b

module _ (f : Item → List BoxNode) (counts : (y : Item) → length (f y) ≡ box_count y) where
  found_later : (low : ℕ) (x : Item) (xs : List Item) (at k : ℕ) (b : BoxNode) → Rises low (map node_of (x ∷ xs)) → at ≡ length (f x) + k → Found f xs k b → Found f (x ∷ xs) at b
  found_later low x xs at k b r e t =
      let after = rises_from (suc (node_of x)) (map node_of xs) (node_of t.item) r.1 (to_map node_of xs t.item t.inside) in
      let later = before_later x xs (node_of t.item) (omega (arith, after)) in
      let c = counts x in
      let p = t.place in
      record { item = t.item; inside = later_member _ t.inside; offset = t.offset; place = omega (arith, later, c, p, e); is = t.is }

  pub found : (low : ℕ) (items : List Item) (at : ℕ) (b : BoxNode) → Rises low (map node_of items) → slice_get (flat_map f items) at ≡ Some b → Found f items at b
  found low [] at b r e = absurd (cc)
  found low (x ∷ xs) at b r e = by_test (nat_lt at (length (f x))) refl (λ k s. found (suc (node_of x)) xs k b r.1 s)
    where
      by_test : (t : Bool) → nat_lt at (length (f x)) ≡ t → ((k : ℕ) → slice_get (flat_map f xs) k ≡ Some b → Found f xs k b) → Found f (x ∷ xs) at b
      by_test true s again =
          let l = ltb-true at (length (f x)) s in
          let first = before_first x xs (node_of x) (omega arith) ∙ before_none (suc (node_of x)) xs (node_of x) r.1 (omega arith) in
          record { item = x; inside = first_member _ refl; offset = at; place = omega (arith, first); is = sym (get_before (f x) (flat_map f xs) at l) ∙ e }
      by_test false s again =
          let l = ltb-false at (length (f x)) s in
          let k : at ≡ length (f x) + (at - length (f x)) = omega (arith, l) in
          let here : slice_get (f x ++ flat_map f xs) (length (f x) + (at - length (f x))) ≡ Some b = subst (λ n. slice_get (f x ++ flat_map f xs) n ≡ Some b) k e in
          found_later low x xs at (at - length (f x)) b r k (again (at - length (f x)) (sym (slice_back (f x) (flat_map f xs) (at - length (f x))) ∙ here))
