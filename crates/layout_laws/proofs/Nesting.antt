-- Boxes and the boxes in them: each stands after the one that holds it, in ascending order, and names it.
use Rattle.std.proofs.Common.{◌≡◌, ℕ, zero, suc, ◌+◌, ◌<◌, ◌≤◌, Bool, true, false, ◌==◌, List, [], ◌∷◌, ◌++◌, map, flat_map, Option, Some, None, option_map, slice_get, IsTrue, refl, sym, ◌∙◌, ap, subst, arith, if◌then◌else◌, lt-ltb, eq-eqb, eqb-true, Contains}
use Rattle.std.specs.List.{list_all}
use Rattle.std.specs.Option.{option_map_or}
use Rattle.viz_base.specs.Trees.{ascends, box_passes, is_kid_of}
use Rattle.viz_base.specs.declared.trees.BoxNode.{BoxNode}
use Rattle.viz_base.proofs.ListLemmas.{rises_from, rises_lower, later_member}
use Rattle.viz_base.specs.Orders.{Rises}
use Rattle.layout_semantics.specs.Lists.{one_if}
use Rattle.layout_semantics.specs.Parts.{Part}
use Rattle.layout_semantics.specs.WhiteSpace.{is_in}
use Rattle.layout_semantics.specs.BoxTrees.{Item, box_count, boxes_before, begins_run, own_place, first_of, outer_place, kid_place, kid_places, items_in, own_box, anonymous_box, with_anonymous, boxes_at, boxes_of}
use Rattle.layout_laws.proofs.Members.{rises_filter, to_map, from_map, from_filter, from_flat_map, from_one_if, no_member, first_member, only_member, by_member}
use Rattle.layout_laws.proofs.Places.{node_of, found}
use Rattle.layout_laws.proofs.Kids.{IsArranged, IsMember, counts, order, own_place_is, own_place_from, own_place_within, own_box_at, anonymous_box_at}
use Rattle.layout_laws.proofs.Runs.{is_in_some}

-- ---- the kids of a node's own box

-- where the box stands that is a part's or the anonymous block box that begins with it
pub record IsKidPlace (items : List Item) (y : Item) (k : ℕ) : Type 0 where
  pub box : BoxNode
  pub at_box : slice_get (boxes_of items) k ≡ Some box
  pub parent : box.parent ≡ option_map (own_place items) y.part.parent

pub count_least : (b : Bool) → 1 ≤ (if b then 2 else 1)
count_least true = omega arith
count_least false = omega arith

module _ (items : List Item) (arranged : IsArranged items) where
  -- the place of a kid lies among those of its node
  rise_at : (p : Part) (run : Option (List ℕ)) (ks : List ℕ) → Contains items (record { part = p; run = run })
      → Rises (boxes_before items p.node + box_count (record { part = p; run = run })) ks → Rises (boxes_before items p.node) (kid_place items (record { part = p; run = run }) ++ ks)
  rise_at p None ks i r =
      let from = own_place_from items arranged (record { part = p; run = None }) i in
      let within = own_place_within items arranged (record { part = p; run = None }) i in
      (from, rises_lower (suc (own_place items p.node)) (boxes_before items p.node + 1) ks within r)
  rise_at p (Some run) ks i r = by_test (first_of run == p.node) (count_least (first_of run == p.node)) r
    where
      by_test : (b : Bool) → 1 ≤ (if b then 2 else 1) → Rises (boxes_before items p.node + (if b then 2 else 1)) ks → Rises (boxes_before items p.node) (one_if b (boxes_before items p.node) ++ ks)
      by_test true l r = (omega arith, rises_lower (suc (boxes_before items p.node)) (boxes_before items p.node + 2) ks (omega arith) r)
      by_test false l r = rises_lower (boxes_before items p.node) (boxes_before items p.node + 1) ks (omega arith) r

  rise_in : (low n : ℕ) (ys : List Item) → Rises n (map node_of ys) → ((y : Item) → Contains ys y → Contains items y × (low ≤ boxes_before items (node_of y))) → Rises low (flat_map (kid_place items) ys)
  rise_in low n [] r f = tt
  rise_in low n (y ∷ ys) r f =
      let here = f y (first_member _ refl) in
      let rest = rise_in (boxes_before items (node_of y) + box_count y) (suc (node_of y)) ys r.1
      (λ z i. let there = f z (later_member _ i) in
      let after = rises_from (suc (node_of y)) (map node_of ys) (node_of z) r.1 (to_map node_of ys z i) in
      (there.0, order items arranged y z here.0 there.0 after)) in
      rises_lower low (boxes_before items (node_of y)) (kid_place items y ++ flat_map (kid_place items) ys) here.1 (rise_at y.part y.run (flat_map (kid_place items) ys) here.0 rest)

  -- the parts in a node's box stand after it
  after_parent : (x y : Item) → Contains items x → Contains (items_in items (node_of x)) y → Contains items y × (own_place items (node_of x) < boxes_before items (node_of y))
  after_parent x y i j =
      let chosen_y = from_filter (λ (item : Item). is_in (node_of x) item.part.parent) items y j in
      let up = arranged.parents y (node_of x) chosen_y.0 (is_in_some (node_of x) y.part.parent chosen_y.1) in
      let within = own_place_within items arranged x i in
      let l = order items arranged x y i chosen_y.0 up.before in
      (chosen_y.0, omega (arith, within, l))

  pub own_kids_rise : (x : Item) → Contains items x → Rises (suc (own_place items (node_of x))) (kid_places items (node_of x))
  own_kids_rise x i =
      rise_in (suc (own_place items (node_of x))) 0 (items_in items (node_of x))
      (rises_filter node_of (λ (item : Item). is_in (node_of x) item.part.parent) 0 items arranged.rises)
      (λ y j. after_parent x y i j)

  kid_at : (p : Part) (run : Option (List ℕ)) (k : ℕ) → Contains items (record { part = p; run = run }) → Contains (kid_place items (record { part = p; run = run })) k → IsKidPlace items (record { part = p; run = run }) k
  kid_at p None k i j = record {
    box = own_box items (record { part = p; run = None });
    at_box = ap (slice_get (boxes_of items)) (sym (only_member (own_place items p.node) k j)) ∙ own_box_at items arranged (record { part = p; run = None }) i;
    parent = refl;
  }
  kid_at p (Some run) k i j =
      let here = from_one_if (first_of run == p.node) (boxes_before items p.node) k j in
      record {
        box = anonymous_box items p run;
        at_box = ap (slice_get (boxes_of items)) here.0 ∙ anonymous_box_at items arranged (record { part = p; run = Some run }) run i refl here.1;
        parent = refl;
      }

  -- each kid of a node's own box names it
  pub own_kids_name : (x : Item) (k : ℕ) → Contains items x → Contains (kid_places items (node_of x)) k → (b : BoxNode) × (slice_get (boxes_of items) k ≡ Some b) × (b.parent ≡ Some (own_place items (node_of x)))
  own_kids_name x k i j =
      let from = from_flat_map (kid_place items) (items_in items (node_of x)) k j in
      let y = from.0 in
      let chosen_y = from_filter (λ (item : Item). is_in (node_of x) item.part.parent) items y from.1 in
      let here = kid_at y.part y.run k chosen_y.0 from.2 in
      (here.box, here.at_box, here.parent ∙ ap (option_map (own_place items)) (is_in_some (node_of x) y.part.parent chosen_y.1))

-- ---- the kids of an anonymous block box

module _ (items : List Item) (arranged : IsArranged items) where
  member_after : (run : List ℕ) (low : ℕ) (k : ℕ) → IsMember items run k → low ≤ boxes_before items k → low ≤ own_place items k
  member_after run low k m l = let from = own_place_from items arranged m.item m.inside in let e = m.node in omega (arith, l, rw e at from)

  members_order : (run : List ℕ) (j k : ℕ) → IsMember items run j → IsMember items run k → j < k → own_place items j < own_place items k
  members_order run j k m n l =
      let e = m.node in
      let f = n.node in
      let within = own_place_within items arranged m.item m.inside in
      let from = own_place_from items arranged n.item n.inside in
      let o = order items arranged m.item n.item m.inside n.inside (subst (λ a. a < node_of n.item) (sym e) (subst (λ b. j < b) (sym f) l)) in
      let within_j = rw e at within in
      let from_k = rw f at from in
      let o_k = rw (e, f) at o in
      omega (arith, within_j, from_k, o_k)

  members_rise : (run : List ℕ) (low n : ℕ) (ks : List ℕ) → Rises n ks → ((k : ℕ) → Contains ks k → IsMember items run k × (low ≤ own_place items k)) → Rises low (map (own_place items) ks)
  members_rise run low n [] r f = tt
  members_rise run low n (k ∷ ks) r f =
      let here = f k (first_member _ refl) in (
        here.1,
        members_rise run (suc (own_place items k)) (suc k) ks r.1
            (λ j i. let there = f j (later_member _ i) in (there.0, members_order run k j here.0 there.0 (rises_from (suc k) ks j r.1 i))),
      )

  -- each place in a run is after that of the anonymous block box
  after_anonymous : (x : Item) (run : List ℕ) → Contains items x → x.run ≡ Some run → (first_of run == node_of x) ≡ true → (k : ℕ) → Contains run k → suc (boxes_before items (node_of x)) ≤ own_place items k
  after_anonymous x [] i e t k j = no_member j
  after_anonymous x (f ∷ run) i e t k j =
      let same = eqb-true f (node_of x) t in
      by_member (λ m. suc (boxes_before items (node_of x)) ≤ own_place items m) f run k j
      (let begins : begins_run x ≡ true = ap (λ (o : Option (List ℕ)). option_map_or (λ run. first_of run == node_of x) o false) e ∙ t in
      let is = own_place_is items arranged x i ∙ ap (λ (b : Bool). boxes_before items (node_of x) + (if b then 1 else 0)) begins in
      let there = ap (own_place items) same ∙ is in
      omega (arith, there))
      (λ h.
      let known = arranged.runs x (f ∷ run) i e in
      let m = known.members k (later_member _ h) in
      let after = rises_from (suc f) run k known.rises.1 h in
      let within = own_place_within items arranged x i in
      let from_x = own_place_from items arranged x i in
      let from = own_place_from items arranged m.item m.inside in
      let o = order items arranged x m.item i m.inside (subst (λ a. node_of x < a) (sym m.node) (omega (arith, same, after))) in
      let node = m.node in
      let from_k = rw node at from in
      let o_k = rw node at o in
      omega (arith, within, from_x, from_k, o_k))

  pub anonymous_kids_rise : (x : Item) (run : List ℕ) → Contains items x → x.run ≡ Some run → (first_of run == node_of x) ≡ true → Rises (suc (boxes_before items (node_of x))) (map (own_place items) run)
  anonymous_kids_rise x run i e t =
      let known = arranged.runs x run i e in
      members_rise run (suc (boxes_before items (node_of x))) 0 run known.rises (λ k j. (known.members k j, after_anonymous x run i e t k j))

  pub anonymous_kids_name : (x : Item) (run : List ℕ) (place : ℕ) → Contains items x → x.run ≡ Some run → (first_of run == node_of x) ≡ true → Contains (map (own_place items) run) place
      → (b : BoxNode) × (slice_get (boxes_of items) place ≡ Some b) × (b.parent ≡ Some (boxes_before items (node_of x)))
  anonymous_kids_name x run place i e t j =
      let from = from_map (own_place items) run place j in
      let known = arranged.runs x run i e in
      let m = known.members from.0 from.1 in
      let here = own_box_at items arranged m.item m.inside in
      let place_is : own_place items (node_of m.item) ≡ place = ap (own_place items) m.node ∙ from.2 in
      let outer : outer_place items m.item ≡ Some (boxes_before items (first_of run)) = outer_by_run m.item run m.run_is in
      (own_box items m.item, ap (slice_get (boxes_of items)) (sym place_is) ∙ here, outer ∙ ap (λ n. Some (boxes_before items n)) (eqb-true (first_of run) (node_of x) t))
    where
      outer_part : (p : Part) (o : Option (List ℕ)) (run : List ℕ) → o ≡ Some run → outer_place items (record { part = p; run = o }) ≡ Some (boxes_before items (first_of run))
      outer_part p None run e = absurd (cc)
      outer_part p (Some r) run e = let same : r ≡ run = cc in ap (λ l. Some (boxes_before items (first_of l))) same

      outer_by_run : (y : Item) (run : List ℕ) → y.run ≡ Some run → outer_place items y ≡ Some (boxes_before items (first_of run))
      outer_by_run y run e = outer_part y.part y.run run e

-- ---- each box is a node's own or an anonymous block box

pub data IsBoxOf (items : List Item) (at : ℕ) (b : BoxNode) : Type 0 where
  own : (x : Item) → Contains items x → at ≡ own_place items (node_of x) → b ≡ own_box items x → IsBoxOf items at b
  anonymous : (x : Item) (run : List ℕ) → Contains items x → x.run ≡ Some run → (first_of run == node_of x) ≡ true → at ≡ boxes_before items (node_of x) → b ≡ anonymous_box items x.part run → IsBoxOf items at b

module _ (items : List Item) (arranged : IsArranged items) (at : ℕ) (b : BoxNode) where
  own_from : (x : Item) (offset : ℕ) → Contains items x → at ≡ boxes_before items (node_of x) + offset → (if begins_run x then 1 else 0) ≡ offset → own_box items x ≡ b → IsBoxOf items at b
  own_from x offset i p o e = let is = own_place_is items arranged x i in IsBoxOf.own x i (omega (arith, p, o, is)) (sym e)

  by_test : (p : Part) (run : List ℕ) (offset : ℕ) (t : Bool) → Contains items (record { part = p; run = Some run }) → at ≡ boxes_before items p.node + offset → (first_of run == p.node) ≡ t
      → slice_get (with_anonymous items (record { part = p; run = Some run }) t (Some run)) offset ≡ Some b → IsBoxOf items at b
  by_test p run zero true i a s e = IsBoxOf.anonymous (record { part = p; run = Some run }) run i refl s (omega (arith, a)) (sym (some_same e))
    where
      some_same : {x y : BoxNode} → Some x ≡ Some y → x ≡ y
      some_same e = cc
  by_test p run (suc zero) true i a s e = own_from (record { part = p; run = Some run }) 1 i a (ap (λ (b : Bool). if b then 1 else 0) s) (some_same e)
    where
      some_same : {x y : BoxNode} → Some x ≡ Some y → x ≡ y
      some_same e = cc
  by_test p run (suc (suc offset)) true i a s e = absurd (cc)
  by_test p run zero false i a s e = own_from (record { part = p; run = Some run }) 0 i a (ap (λ (b : Bool). if b then 1 else 0) s) (some_same e)
    where
      some_same : {x y : BoxNode} → Some x ≡ Some y → x ≡ y
      some_same e = cc
  by_test p run (suc offset) false i a s e = absurd (cc)

  by_run : (p : Part) (run : Option (List ℕ)) (offset : ℕ) → Contains items (record { part = p; run = run }) → at ≡ boxes_before items p.node + offset
      → slice_get (boxes_at items (record { part = p; run = run })) offset ≡ Some b → IsBoxOf items at b
  by_run p None zero i a e = own_from (record { part = p; run = None }) 0 i a refl (some_same e)
    where
      some_same : {x y : BoxNode} → Some x ≡ Some y → x ≡ y
      some_same e = cc
  by_run p None (suc offset) i a e = absurd (cc)
  by_run p (Some run) offset i a e = by_test p run offset (first_of run == p.node) i a refl e

  pub box_is : slice_get (boxes_of items) at ≡ Some b → IsBoxOf items at b
  box_is e =
      let f = found (boxes_at items) (counts items) 0 items at b arranged.rises e in
      by_run f.item.part f.item.run f.offset f.inside f.place f.is

-- ---- each box and its kids

pub ascends_from : (low : ℕ) (ks : List ℕ) → Rises (suc low) ks → IsTrue (ascends low ks)
ascends_from low [] r = refl
ascends_from low (k ∷ ks) r = let l = lt-ltb low k r.0 in rw l (ascends_from k ks r.1)

named_all : (boxes : List BoxNode) (at : ℕ) (ks : List ℕ) → ((k : ℕ) → Contains ks k → (b : BoxNode) × (slice_get boxes k ≡ Some b) × (b.parent ≡ Some at)) → IsTrue (list_all (box_passes (is_kid_of at) boxes) ks)
named_all boxes at [] f = refl
named_all boxes at (k ∷ ks) f =
    let here = f k (first_member _ refl) in
    let passes : box_passes (is_kid_of at) boxes k ≡ true = ap (λ (o : Option BoxNode). option_map_or (is_kid_of at) o false) here.1 ∙ (ap (λ (o : Option ℕ). option_map_or (λ p. p == at) o false) here.2 ∙ eq-eqb at at refl) in
    rw passes (named_all boxes at ks (λ j i. f j (later_member _ i)))

module _ (items : List Item) (arranged : IsArranged items) where
  rising_kids : (at : ℕ) (b : BoxNode) → IsBoxOf items at b → Rises (suc at) b.kids
  rising_kids at b (IsBoxOf.own x i p e) = subst (λ (c : BoxNode). Rises (suc at) c.kids) (sym e) (subst (λ n. Rises (suc n) (kid_places items (node_of x))) (sym p) (own_kids_rise items arranged x i))
  rising_kids at b (IsBoxOf.anonymous x run i r t p e) = subst (λ (c : BoxNode). Rises (suc at) c.kids) (sym e) (subst (λ n. Rises (suc n) (map (own_place items) run)) (sym p) (anonymous_kids_rise items arranged x run i r t))

  naming_kids : (at : ℕ) (b : BoxNode) → IsBoxOf items at b → (k : ℕ) → Contains b.kids k → (c : BoxNode) × (slice_get (boxes_of items) k ≡ Some c) × (c.parent ≡ Some at)
  naming_kids at b (IsBoxOf.own x i p e) k j =
      let there = own_kids_name items arranged x k i (subst (λ (c : BoxNode). Contains c.kids k) e j) in
      (there.0, there.1, there.2 ∙ ap Some (sym p))
  naming_kids at b (IsBoxOf.anonymous x run i r t p e) k j =
      let there = anonymous_kids_name items arranged x run k i r t (subst (λ (c : BoxNode). Contains c.kids k) e j) in
      (there.0, there.1, there.2 ∙ ap Some (sym p))

  pub kids_ascend : (at : ℕ) (b : BoxNode) → slice_get (boxes_of items) at ≡ Some b → IsTrue (ascends at b.kids)
  kids_ascend at b e = ascends_from at b.kids (rising_kids at b (box_is items arranged at b e))

  pub kids_name : (at : ℕ) (b : BoxNode) → slice_get (boxes_of items) at ≡ Some b → IsTrue (list_all (box_passes (is_kid_of at) (boxes_of items)) b.kids)
  kids_name at b e = named_all (boxes_of items) at b.kids (λ k i. naming_kids at b (box_is items arranged at b e) k i)

  pub kids_place : (at : ℕ) (b : BoxNode) → slice_get (boxes_of items) at ≡ Some b → (k : ℕ) → Contains b.kids k → (c : BoxNode) × (slice_get (boxes_of items) k ≡ Some c) × (c.parent ≡ Some at)
  kids_place at b e k i = naming_kids at b (box_is items arranged at b e) k i
