-- Boxes and the boxes in them: each stands after the one that holds it, in ascending order, and names it.
use Rattle.std.proofs.Common.{◌≡◌, ℕ, suc, ◌+◌, ◌<◌, ◌≤◌, Bool, true, false, ◌==◌, ◌&&◌, ◌||◌, List, [], ◌∷◌, map, length, Option, Some, None, slice_get, refl, sym, ◌∙◌, ap, subst, arith, if◌then◌else◌, eq-eqb, ne_eqb, Contains, ⊎_elim}
use Rattle.std.specs.Option.{option_map_or}
use Rattle.std.proofs.Math.Bool.{or-false}
use Rattle.viz_base.specs.declared.trees.BoxNode.{BoxNode}
use Rattle.viz_base.proofs.ListLemmas.{rises_from}
use Rattle.viz_base.specs.Orders.{Rises}
use Rattle.layout_semantics.specs.Parts.{Part}
use Rattle.layout_semantics.specs.BoxTrees.{Item, box_count, boxes_before, begins_run, begins_at, own_place, first_of, own_box, anonymous_box, with_anonymous, boxes_at, boxes_of}
use Rattle.layout_laws.proofs.Members.{to_map, no_member, first_or_later, by_member}
use Rattle.layout_laws.proofs.Places.{node_of, box_at, before_later, before_first, before_none}

-- ---- what is known of the items of a page

pub record HasParent (items : List Item) (x : Item) (q : ℕ) : Type 0 where
  pub before : q < node_of x
  pub parent : Item
  pub inside : Contains items parent
  pub node : node_of parent ≡ q

pub record IsMember (items : List Item) (run : List ℕ) (k : ℕ) : Type 0 where
  pub item : Item
  pub inside : Contains items item
  pub node : node_of item ≡ k
  pub run_is : item.run ≡ Some run

pub record IsRun (items : List Item) (run : List ℕ) : Type 0 where
  pub first_in : Contains run (first_of run)
  pub rises : Rises 0 run
  pub members : (k : ℕ) → Contains run k → IsMember items run k

pub record IsArranged (items : List Item) : Type 0 where
  pub rises : Rises 0 (map node_of items)
  pub parents : (x : Item) (q : ℕ) → Contains items x → x.part.parent ≡ Some q → HasParent items x q
  pub runs : (x : Item) (run : List ℕ) → Contains items x → x.run ≡ Some run → IsRun items run

-- ---- a node's boxes

count_with : (items : List Item) (x : Item) (b : Bool) (run : List ℕ) → length (with_anonymous items x b (Some run)) ≡ (if b then 2 else 1)
count_with items x true run = refl
count_with items x false run = refl

count_of : (items : List Item) (p : Part) (run : Option (List ℕ)) → length (boxes_at items (record { part = p; run = run })) ≡ box_count (record { part = p; run = run })
count_of items p None = refl
count_of items p (Some run) = count_with items (record { part = p; run = Some run }) (first_of run == p.node) run

pub counts : (items : List Item) (x : Item) → length (boxes_at items x) ≡ box_count x
counts items x = count_of items x.part x.run

own_with : (items : List Item) (x : Item) (b : Bool) (run : List ℕ) → slice_get (with_anonymous items x b (Some run)) (if b then 1 else 0) ≡ Some (own_box items x)
own_with items x true run = refl
own_with items x false run = refl

own_of : (items : List Item) (p : Part) (run : Option (List ℕ)) → slice_get (boxes_at items (record { part = p; run = run })) (if begins_run (record { part = p; run = run }) then 1 else 0) ≡ Some (own_box items (record { part = p; run = run }))
own_of items p None = refl
own_of items p (Some run) = own_with items (record { part = p; run = Some run }) (first_of run == p.node) run

-- ---- the place of a node's own box

none_begins : (low : ℕ) (xs : List Item) (n : ℕ) → Rises low (map node_of xs) → n < low → begins_at xs n ≡ false
none_begins low [] n r l = refl
none_begins low (x ∷ xs) n r l =
    let other = ne_eqb (node_of x) n (λ e. omega (arith, e, r.0)) in
    let rest = none_begins (suc (node_of x)) xs n r.1 (omega (arith, r.0)) in
    ap (λ b. (b && begins_run x) || begins_at xs n) other ∙ rest

pub begins_at_is : (low : ℕ) (xs : List Item) (x : Item) → Rises low (map node_of xs) → Contains xs x → begins_at xs (node_of x) ≡ begins_run x
begins_at_is low [] x r i = no_member i
begins_at_is low (y ∷ xs) x r i =
    by_member (λ z. begins_at (y ∷ xs) (node_of z) ≡ begins_run z) y xs x i
    (let same = eq-eqb (node_of y) (node_of y) refl in
    let rest = none_begins (suc (node_of y)) xs (node_of y) r.1 (omega arith) in
    ap (λ b. (b && begins_run y) || begins_at xs (node_of y)) same ∙ (ap (λ b. begins_run y || b) rest ∙ or-false (begins_run y)))
    (λ j.
    let after = rises_from (suc (node_of y)) (map node_of xs) (node_of x) r.1 (to_map node_of xs x j) in
    let other = ne_eqb (node_of y) (node_of x) (λ e. omega (arith, e, after)) in
    ap (λ b. (b && begins_run y) || begins_at xs (node_of x)) other ∙ begins_at_is (suc (node_of y)) xs x r.1 j)

-- ---- places rise with nodes

-- the boxes of an earlier node all come before those of a later one
before_in_order : (low : ℕ) (xs : List Item) (x y : Item) → Rises low (map node_of xs) → Contains xs x → Contains xs y → node_of x < node_of y → boxes_before xs (node_of x) + box_count x ≤ boxes_before xs (node_of y)
before_in_order low [] x y r i j l = no_member i
before_in_order low (z ∷ xs) x y r i j l =
    by_member (λ a. node_of a < node_of y → boxes_before (z ∷ xs) (node_of a) + box_count a ≤ boxes_before (z ∷ xs) (node_of y)) z xs x i
    (λ m.
    let first = before_first z xs (node_of z) (omega arith) ∙ before_none (suc (node_of z)) xs (node_of z) r.1 (omega arith) in
    let later = before_later z xs (node_of y) m in
    omega (arith, first, later))
    (λ h m.
    let after = rises_from (suc (node_of z)) (map node_of xs) (node_of x) r.1 (to_map node_of xs x h) in
    ⊎_elim
    (λ e. absurd (omega (arith, after, m, ap node_of e)))
    (λ k.
    let first = before_later z xs (node_of x) (omega (arith, after)) in
    let second = before_later z xs (node_of y) (omega (arith, after, m)) in
    let again = before_in_order (suc (node_of z)) xs x y r.1 h k m in
    omega (arith, first, second, again))
    (first_or_later z xs y j)) l

count_by_test : (b : Bool) → (if b then 1 else 0) < (if b then 2 else 1)
count_by_test true = omega arith
count_by_test false = omega arith

module _ (items : List Item) (arranged : IsArranged items) where
  pub own_place_is : (x : Item) → Contains items x → own_place items (node_of x) ≡ boxes_before items (node_of x) + (if begins_run x then 1 else 0)
  own_place_is x i = ap (λ (b : Bool). boxes_before items (node_of x) + (if b then 1 else 0)) (begins_at_is 0 items x arranged.rises i)

  pub own_place_within : (x : Item) → Contains items x → own_place items (node_of x) < boxes_before items (node_of x) + box_count x
  own_place_within x i = let e = own_place_is x i in let l = count_by_test (begins_run x) in omega (arith, e, l)

  pub own_place_from : (x : Item) → Contains items x → boxes_before items (node_of x) ≤ own_place items (node_of x)
  own_place_from x i = let e = own_place_is x i in omega (arith, e)

  pub order : (x y : Item) → Contains items x → Contains items y → node_of x < node_of y → boxes_before items (node_of x) + box_count x ≤ boxes_before items (node_of y)
  order x y i j l = before_in_order 0 items x y arranged.rises i j l

  -- ---- boxes at their places

  pub own_box_at : (x : Item) → Contains items x → slice_get (boxes_of items) (own_place items (node_of x)) ≡ Some (own_box items x)
  own_box_at x i =
      let own = own_of items x.part x.run in
      let within : (if begins_run x then 1 else 0) < length (boxes_at items x) = subst (λ n. (if begins_run x then 1 else 0) < n) (sym (counts items x)) (count_by_test (begins_run x)) in
      ap (slice_get (boxes_of items)) (own_place_is x i) ∙ (box_at (boxes_at items) (counts items) 0 items x (if begins_run x then 1 else 0) arranged.rises i within ∙ own)

  pub anonymous_box_at : (x : Item) (run : List ℕ) → Contains items x → x.run ≡ Some run → (first_of run == node_of x) ≡ true → slice_get (boxes_of items) (boxes_before items (node_of x)) ≡ Some (anonymous_box items x.part run)
  anonymous_box_at x run i e t =
      let begins : begins_run x ≡ true = ap (λ (o : Option (List ℕ)). option_map_or (λ run. first_of run == node_of x) o false) e ∙ t in
      let shape : boxes_at items x ≡ anonymous_box items x.part run ∷ own_box items x ∷ [] = ap (λ (b : Bool). with_anonymous items x b x.run) begins ∙ ap (with_anonymous items x true) e in
      let within : 0 < length (boxes_at items x) = subst (λ (l : List BoxNode). 0 < length l) (sym shape) (omega arith) in
      let none : boxes_before items (node_of x) + 0 ≡ boxes_before items (node_of x) = omega arith in
      ap (slice_get (boxes_of items)) (sym none) ∙ (box_at (boxes_at items) (counts items) 0 items x 0 arranged.rises i within ∙ ap (λ (l : List BoxNode). slice_get l 0) shape)
