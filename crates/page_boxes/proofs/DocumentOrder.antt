-- The boxes of a page stand in document order, and the first is no inline box; so they are a box tree.
use Rattle.std.proofs.Common.{◌≡◌, ℕ, suc, ◌+◌, ◌<◌, ◌≤◌, ◌==◌, Bool, true, false, List, [], ◌∷◌, map, Option, Some, None, option_map, slice_get, IsTrue, refl, sym, ◌∙◌, ap, subst, arith, inl, inr, ◌⊎◌, if◌then◌else◌, eq-or-lt_of_le, eqb-true, eq-eqb, lt-ltb, ltb-true, filter, Contains, ⊎_elim}
use Rattle.std.specs.List.{list_any}
use Rattle.std.proofs.lemmas.Bool.{cases_order}
use Rattle.std.proofs.lemmas.Option.{same_Some, slice_get-map}
use Rattle.viz_base.specs.Orders.{IsInOrder, is_from, Rises}
use Rattle.viz_base.specs.Pages.{IsPage}
use Rattle.viz_base.specs.Trees.{IsBoxTree, is_fragmented}
use Rattle.viz_base.specs.declared.fonts.Font.{Font}
use Rattle.viz_base.specs.declared.nodes.Node.{Node}
use Rattle.viz_base.specs.declared.styles.Style.{Style}
use Rattle.viz_base.specs.declared.trees.BoxNode.{BoxNode}
use Rattle.viz_base.proofs.ListLemmas.{rises_from, later_member}
use Rattle.layout_semantics.specs.Parts.{Part, Level, kind_of_node}
use Rattle.layout_semantics.specs.WhiteSpace.{is_in}
use Rattle.layout_semantics.specs.BoxTrees.{Item, begins_run, boxes_before, first_of, has_node, is_block_part, items_of, needs_box, nodes_of, outer_place, own_place, page_boxes, page_parts, parts_in, runs_of, tree_parents, tree_styles, with_part, wrapped_in}
use Rattle.layout_semantics.specs.Refusals.{blocks_in_inlines}
use Rattle.layout_laws.specs.Styled.{AreStylesOf}
use Rattle.layout_laws.proofs.Members.{any_in, from_filter, from_map, rises_filter, to_filter, to_map, unique_in, no_member, first_member, first_or_later}
use Rattle.layout_laws.proofs.Places.{node_of}
use Rattle.layout_laws.proofs.Kids.{IsArranged, HasParent, order, own_place_from, own_place_is, own_place_within}
use Rattle.layout_laws.proofs.Nesting.{IsBoxOf}
use Rattle.layout_laws.proofs.Runs.{find_run, found_in, from_runs, is_in_some, rises_wrapped, run_parent, past_empty}
use Rattle.layout_laws.proofs.PageParts.{page_rises}
use Rattle.layout_laws.proofs.BoxLaws.{page_arranged}
use Rattle.layout_laws.proofs.BoxFacts.{item_known, item_part, page_box_is}
use Rattle.layout_laws.proofs.Sorts.{run_in}
use Rattle.layout_laws.proofs.TreeFacts.{box_tree, no_parent}
use Rattle.layout_laws.proofs.Whole.{among_kids, root_first}
use Rattle.layout_laws.proofs.ElementBoxes.{anonymous-in, text-in}
use Rattle.page_boxes.proofs.PageSteps.{root_has_none, root_whole}

-- ---- runs leave out nothing

module _ (p : Part) (ps : List Part) (after : (z : Part) → Contains ps z → p.node < z.node) where
  -- a list that leaves out nothing before one of its parts keeps to that with an earlier part in front
  longer : (run : List Part) → ((b z : Part) → Contains run b → Contains ps z → z.node < b.node → Contains run z) → (b z : Part) → Contains (p ∷ run) b → Contains (p ∷ ps) z → z.node < b.node → Contains (p ∷ run) z
  longer run again b z i j l =
      ⊎_elim
      (λ e. first_member _ e)
      (λ h.
      ⊎_elim
      (λ s. let later = after z h in absurd (omega (arith, later, l, ap (λ (q : Part). q.node) s)))
      (λ k. later_member _ (again b z k h l))
      (first_or_later p run b i))
      (first_or_later p ps z j)

-- the first run leaves out nothing before a part of it
abbrev FirstIsWhole : List Part → List (List Part) → Type 0
FirstIsWhole kids [] = Unit {0}
FirstIsWhole kids (run ∷ runs) = (b z : Part) → Contains run b → Contains kids z → z.node < b.node → Contains run z

first_whole : (kids : List Part) (low : ℕ) → Rises low (map (λ (p : Part). p.node) kids) → FirstIsWhole kids (runs_of kids)
first_whole [] low rise = λ b z i j l. no_member i
first_whole (p ∷ ps) low rise = by_level p.level (runs_of ps) (first_whole ps (suc p.node) rise.1)
  where
    after : (z : Part) → Contains ps z → p.node < z.node
    after z i = rises_from (suc p.node) (map (λ (p : Part). p.node) ps) z.node rise.1 (to_map (λ (p : Part). p.node) ps z i)

    by_level : (level : Level) (runs : List (List Part)) → FirstIsWhole ps runs → FirstIsWhole (p ∷ ps) (with_part level p runs)
    by_level Level.block runs again = λ b z i j l. no_member i
    by_level Level.floated [] again = longer p ps after [] (λ b z i j l. no_member i)
    by_level Level.floated (run ∷ runs) again = longer p ps after run again
    by_level Level.inline [] again = longer p ps after [] (λ b z i j l. no_member i)
    by_level Level.inline (run ∷ runs) again = longer p ps after run again

-- no run leaves out anything between two parts of it
whole : (kids : List Part) (low : ℕ) → Rises low (map (λ (p : Part). p.node) kids) → (run : List Part) (a b z : Part) → Contains (runs_of kids) run → Contains run a → Contains run b → Contains kids z → a.node < z.node → z.node < b.node → Contains run z
whole [] low rise run a b z i j k h l m = no_member h
whole (p ∷ ps) low rise run a b z i j k h l m =
    ⊎_elim
    (λ e.
    let rising : Rises p.node (map (λ (p : Part). p.node) (p ∷ ps)) = (omega arith, rise.1) in
    let first = rises_from p.node (map (λ (p : Part). p.node) (p ∷ ps)) a.node rising (to_map (λ (p : Part). p.node) (p ∷ ps) a (from_runs (p ∷ ps) run a i j)) in
    absurd (omega (arith, first, l, ap (λ (q : Part). q.node) e)))
    (λ g. by_level g p.level (runs_of ps) (first_whole ps (suc p.node) rise.1) run i j k (λ r e f h. whole ps (suc p.node) rise.1 r a b z e f h g l m))
    (first_or_later p ps z h)
  where
    after : (z : Part) → Contains ps z → p.node < z.node
    after z i = rises_from (suc p.node) (map (λ (p : Part). p.node) ps) z.node rise.1 (to_map (λ (p : Part). p.node) ps z i)

    grown : Contains ps z → (r : List Part) (runs : List (List Part)) → ((c y : Part) → Contains r c → Contains ps y → y.node < c.node → Contains r y) → (run : List Part) → Contains ((p ∷ r) ∷ runs) run → Contains run b
        → (Contains runs run → Contains run z) → Contains run z
    grown g r runs first run i k again =
        ⊎_elim
        (λ e. subst (λ s. Contains s z) e (longer p ps after r first b z (subst (λ s. Contains s b) (sym e) k) (later_member ps g) m))
        again
        (first_or_later (p ∷ r) runs run i)

    by_level : Contains ps z → (level : Level) (runs : List (List Part)) → FirstIsWhole ps runs → (run : List Part) → Contains (with_part level p runs) run → Contains run a → Contains run b
        → ((r : List Part) → Contains runs r → Contains r a → Contains r b → Contains r z) → Contains run z
    by_level g Level.block runs first run i j k again = again run (past_empty runs run a i j) j k
    by_level g Level.floated [] first run i j k again = grown g [] [] (λ c y e f h. no_member e) run i k (λ h. no_member h)
    by_level g Level.floated (r ∷ runs) first run i j k again = grown g r runs first run i k (λ h. again run (later_member runs h) j k)
    by_level g Level.inline [] first run i j k again = grown g [] [] (λ c y e f h. no_member e) run i k (λ h. no_member h)
    by_level g Level.inline (r ∷ runs) first run i j k again = grown g r runs first run i k (λ h. again run (later_member runs h) j k)

wrapped_runs : (kids : List Part) (run : List Part) → Contains (wrapped_in kids) run → Contains (runs_of kids) run
wrapped_runs kids run i = by_test (list_any is_block_part kids) i
  where
    by_test : (b : Bool) → Contains (if b then filter needs_box (runs_of kids) else []) run → Contains (runs_of kids) run
    by_test true i = (from_filter needs_box (runs_of kids) run i).0
    by_test false i = no_member i

-- ---- what is known of the items of a page

-- the item with which a run begins
record HasFirst (items : List Item) (run : List ℕ) (q : ℕ) : Type 0 where
  item : Item
  inside : Contains items item
  node : node_of item ≡ first_of run
  run_is : item.run ≡ Some run
  parent : item.part.parent ≡ Some q

record AreInOrder (items : List Item) : Type 0 where
  -- what stands between an element and a part in it is in that element
  between : (x y : Item) (p : ℕ) → Contains items x → Contains items y → y.part.parent ≡ Some p → p < node_of x → node_of x < node_of y → (q : ℕ) × (x.part.parent ≡ Some q) × (p ≤ q)
  -- the parts of a run are in one element
  firsts : (x : Item) (run : List ℕ) → Contains items x → x.run ≡ Some run → (q : ℕ) × (x.part.parent ≡ Some q) × HasFirst items run q
  -- what is in that element and between two of them is in that run
  unbroken : (a x b : Item) (run : List ℕ) (q : ℕ) → Contains items a → Contains items x → Contains items b → a.run ≡ Some run → b.run ≡ Some run
      → a.part.parent ≡ Some q → x.part.parent ≡ Some q → b.part.parent ≡ Some q → node_of a < node_of x → node_of x < node_of b → x.run ≡ Some run

-- ---- the order of boxes

from_place : (low k : ℕ) → low ≤ k → is_from low (Some k) ≡ true
from_place low k l = lt-ltb low (suc k) (omega (arith, l))

outer_own : (items : List Item) (p : Part) (o : Option (List ℕ)) (q : ℕ) → o ≡ None → p.parent ≡ Some q → outer_place items (record { part = p; run = o }) ≡ Some (own_place items q)
outer_own items p None q e up = ap (option_map (own_place items)) up
outer_own items p (Some run) q e up = absurd (cc)

outer_run : (items : List Item) (p : Part) (o : Option (List ℕ)) (run : List ℕ) → o ≡ Some run → outer_place items (record { part = p; run = o }) ≡ Some (boxes_before items (first_of run))
outer_run items p None run e = absurd (cc)
outer_run items p (Some r) run e = ap (λ l. Some (boxes_before items (first_of l))) (same_Some r run e)

outer_alone : (items : List Item) (p : Part) (o : Option (List ℕ)) → o ≡ None → p.parent ≡ None → outer_place items (record { part = p; run = o }) ≡ None
outer_alone items p None e up = ap (option_map (own_place items)) up
outer_alone items p (Some run) e up = absurd (cc)

begins_none : (p : Part) (o : Option (List ℕ)) → o ≡ None → begins_run (record { part = p; run = o }) ≡ false
begins_none p None e = refl
begins_none p (Some run) e = absurd (cc)

module _ (items : List Item) (arranged : IsArranged items) (known : AreInOrder items) where
  -- without a run around it, a node's own box is its only one
  own_alone : (x : Item) → Contains items x → x.run ≡ None → own_place items (node_of x) ≡ boxes_before items (node_of x)
  own_alone x i e =
      let none : own_place items (node_of x) ≡ boxes_before items (node_of x) + 0 = own_place_is items arranged x i ∙ ap (λ (b : Bool). boxes_before items (node_of x) + (if b then 1 else 0)) (begins_none x.part x.run e) in
      omega (arith, none)

  same_item : (x y : Item) → Contains items x → Contains items y → node_of x ≡ node_of y → x ≡ y
  same_item x y i j e = unique_in node_of 0 items x y arranged.rises i j e

  -- a box before all of a node's is of an earlier node
  earlier : (x y : Item) (k : ℕ) → Contains items x → Contains items y → boxes_before items (node_of x) ≤ k → k < boxes_before items (node_of y) → node_of x < node_of y
  earlier x y k i j l m = by_order (cases_order (node_of x) (node_of y))
    where
      by_order : (node_of x ≡ node_of y) ⊎ ((node_of x < node_of y) ⊎ (node_of y < node_of x)) → node_of x < node_of y
      by_order (inl e) = let same = ap (boxes_before items) e in absurd (omega (arith, same, l, m))
      by_order (inr (inl less)) = less
      by_order (inr (inr more)) = let o = order items arranged y x j i more in absurd (omega (arith, o, l, m))

  -- and one after all of them is of a later node
  later : (x y : Item) (k : ℕ) → Contains items x → Contains items y → own_place items (node_of x) < k → k ≤ own_place items (node_of y) → node_of x < node_of y
  later x y k i j l m = by_order (cases_order (node_of x) (node_of y))
    where
      by_order : (node_of x ≡ node_of y) ⊎ ((node_of x < node_of y) ⊎ (node_of y < node_of x)) → node_of x < node_of y
      by_order (inl e) = let same = ap (own_place items) e in absurd (omega (arith, same, l, m))
      by_order (inr (inl less)) = less
      by_order (inr (inr more)) =
          let o = order items arranged y x j i more in
          let within = own_place_within items arranged y j in
          let from = own_place_from items arranged x i in
          absurd (omega (arith, o, within, from, l, m))

  -- places of own boxes rise with their nodes
  own_rises : (x y : Item) → Contains items x → Contains items y → node_of x ≤ node_of y → own_place items (node_of x) ≤ own_place items (node_of y)
  own_rises x y i j l = by_order (eq-or-lt_of_le l)
    where
      by_order : (node_of x ≡ node_of y) ⊎ (node_of x < node_of y) → own_place items (node_of x) ≤ own_place items (node_of y)
      by_order (inl e) = let same = ap (own_place items) e in omega (arith, same)
      by_order (inr less) =
          let o = order items arranged x y i j less in
          let within = own_place_within items arranged x i in
          let from = own_place_from items arranged y j in
          omega (arith, o, within, from)

  -- what is in an element, or in an anonymous block box in it, is in a box from the element's on
  outer_from : (x : Item) (q low : ℕ) → Contains items x → x.part.parent ≡ Some q → low ≤ own_place items q → is_from low (outer_place items x) ≡ true
  outer_from x q low i up l = by_run x.run refl
    where
      by_run : (o : Option (List ℕ)) → x.run ≡ o → is_from low (outer_place items x) ≡ true
      by_run None e = ap (is_from low) (outer_own items x.part x.run q e up) ∙ from_place low (own_place items q) l
      by_run (Some run) e =
          let f = known.firsts x run i e in
          let first = f.2 in
          let element = f.1 in
          let same : f.0 ≡ q = same_Some f.0 q (sym f.1 ∙ up) in
          let above = arranged.parents first.item f.0 first.inside first.parent in
          let before = above.before in
          let node = above.node in
          let o = order items arranged above.parent first.item above.inside first.inside (omega (arith, before, node)) in
          let within = own_place_within items arranged above.parent above.inside in
          let place : own_place items (node_of above.parent) ≡ own_place items q = ap (own_place items) (node ∙ same) in
          let run_place = ap (boxes_before items) first.node in
          ap (is_from low) (outer_run items x.part x.run run e) ∙ from_place low (boxes_before items (first_of run)) (omega (arith, l, o, within, place, run_place))

  -- ---- between an element's box and one in it

  -- the item of a box, and what is known of the box's place and of the box that it is in
  record StandsBy (at : ℕ) (b : BoxNode) : Type 0 where
    item : Item
    inside : Contains items item
    low : boxes_before items (node_of item) ≤ at
    high : at ≤ own_place items (node_of item)
    parent : (q low : ℕ) → item.part.parent ≡ Some q → low ≤ own_place items q → is_from low b.parent ≡ true

  stands : (at : ℕ) (b : BoxNode) → IsBoxOf items at b → StandsBy at b
  stands at b (IsBoxOf.own x i p s) = record {
    item = x;
    inside = i;
    low = let from = own_place_from items arranged x i in omega (arith, from, p);
    high = omega (arith, p);
    parent = λ q low up l. ap (λ (c : BoxNode). is_from low c.parent) s ∙ outer_from x q low i up l;
  }
  stands at b (IsBoxOf.anonymous x run i r t p s) = record {
    item = x;
    inside = i;
    low = omega (arith, p);
    high = let from = own_place_from items arranged x i in omega (arith, from, p);
    parent = λ q low up l. ap (λ (c : BoxNode). is_from low c.parent) s ∙ (ap (λ (o : Option ℕ). is_from low (option_map (own_place items) o)) up ∙ from_place low (own_place items q) l);
  }

  in_element : (between : ℕ) (b : BoxNode) (y : Item) (p : ℕ) → IsBoxOf items between b → Contains items y → y.part.parent ≡ Some p → own_place items p < between → between < boxes_before items (node_of y) → is_from (own_place items p) b.parent ≡ true
  in_element between b y p box j up l m =
      let same = ap (own_place items) above.node in
      let same_there = ap (own_place items) there.node in
      let node = above.node in
      let node_there = there.node in
      let least = q.2 in
      let rises = own_rises above.parent there.parent above.inside there.inside (omega (arith, node, node_there, least)) in
      s.parent q.0 (own_place items p) q.1 (omega (arith, same, same_there, rises))
    where
      s : StandsBy between b
      s = stands between b box

      above : HasParent items y p
      above = arranged.parents y p j up

      after : p < node_of s.item
      after =
          let same = ap (own_place items) above.node in
          let node = above.node in
          let less = later above.parent s.item between above.inside s.inside (omega (arith, same, l)) s.high in
          omega (arith, node, less)

      q : (q : ℕ) × (s.item.part.parent ≡ Some q) × (p ≤ q)
      q = known.between s.item y p s.inside j up after (earlier s.item y between s.inside j s.low m)

      there : HasParent items s.item q.0
      there = arranged.parents s.item q.0 s.inside q.1

  -- ---- between an anonymous block box and one in it

  -- what is between the first part of a run and another of it is in the run, or in an element from that first part on
  in_run_or_later : (a : Item) (x b : Item) (run : List ℕ) (p : ℕ) → Contains items a → Contains items x → Contains items b → a.run ≡ Some run → b.run ≡ Some run → a.part.parent ≡ Some p → b.part.parent ≡ Some p
      → node_of a < node_of x → node_of x < node_of b → (q : ℕ) × (x.part.parent ≡ Some q) × ((x.run ≡ Some run) ⊎ (boxes_before items (node_of a) ≤ own_place items q))
  in_run_or_later a x b run p i j k r t up over l m = by_order (eq-or-lt_of_le q.2)
    where
      before : p < node_of a
      before = (arranged.parents a p i up).before

      q : (q : ℕ) × (x.part.parent ≡ Some q) × (p ≤ q)
      q = known.between x b p j k over (omega (arith, before, l)) m

      from_first : p < q.0 → boxes_before items (node_of a) ≤ own_place items q.0
      from_first less = by_place (cases_order q.0 (node_of a))
        where
          above : HasParent items x q.0
          above = arranged.parents x q.0 j q.1

          by_place : (q.0 ≡ node_of a) ⊎ ((q.0 < node_of a) ⊎ (node_of a < q.0)) → boxes_before items (node_of a) ≤ own_place items q.0
          by_place (inl e) = let same = ap (own_place items) e in let from = own_place_from items arranged a i in omega (arith, same, from)
          by_place (inr (inl lower)) =
              let r = known.between a x q.0 i j q.1 lower l in
              let same : r.0 ≡ p = same_Some r.0 p (sym r.1 ∙ up) in
              let least = r.2 in
              absurd (omega (arith, same, least, less))
          by_place (inr (inr higher)) =
              let node = above.node in
              let same = ap (own_place items) node in
              let rises = own_rises a above.parent i above.inside (omega (arith, node, higher)) in
              let from = own_place_from items arranged a i in
              omega (arith, same, rises, from)

      by_order : (p ≡ q.0) ⊎ (p < q.0) → (q : ℕ) × (x.part.parent ≡ Some q) × ((x.run ≡ Some run) ⊎ (boxes_before items (node_of a) ≤ own_place items q))
      by_order (inl same) = (q.0, q.1, inl (known.unbroken a x b run p i j k r t up (q.1 ∙ ap Some (sym same)) over l m))
      by_order (inr less) = (q.0, q.1, inr (from_first less))

  in_anonymous : (between : ℕ) (b : BoxNode) (y : Item) (run : List ℕ) → IsBoxOf items between b → Contains items y → y.run ≡ Some run → boxes_before items (first_of run) < between → between < own_place items (node_of y)
      → is_from (boxes_before items (first_of run)) b.parent ≡ true
  in_anonymous between b y run box j r l m = by_box box
    where
      f : (q : ℕ) × (y.part.parent ≡ Some q) × HasFirst items run q
      f = known.firsts y run j r

      first : HasFirst items run f.0
      first = f.2

      first_place : boxes_before items (node_of first.item) ≡ boxes_before items (first_of run)
      first_place = ap (boxes_before items) first.node

      -- a box of the run
      in_run_from : (x : Item) → x.run ≡ Some run → is_from (boxes_before items (first_of run)) (outer_place items x) ≡ true
      in_run_from x e = ap (is_from (boxes_before items (first_of run))) (outer_run items x.part x.run run e) ∙ from_place (boxes_before items (first_of run)) (boxes_before items (first_of run)) (omega arith)

      find_parent : (x : Item) → Contains items x → node_of first.item < node_of x → node_of x < node_of y → (q : ℕ) × (x.part.parent ≡ Some q) × ((x.run ≡ Some run) ⊎ (boxes_before items (node_of first.item) ≤ own_place items q))
      find_parent x i after before = in_run_or_later first.item x y run f.0 first.inside i j first.run_is r first.parent f.1 after before

      own_from : (x : Item) → Contains items x → between ≡ own_place items (node_of x) → is_from (boxes_before items (first_of run)) (outer_place items x) ≡ true
      own_from x i p = by_order (cases_order (node_of first.item) (node_of x))
        where
          before : node_of x < node_of y
          before = later x y (own_place items (node_of y)) i j (omega (arith, p, m)) (omega arith)

          by_found : (q : ℕ) × (x.part.parent ≡ Some q) × ((x.run ≡ Some run) ⊎ (boxes_before items (node_of first.item) ≤ own_place items q)) → is_from (boxes_before items (first_of run)) (outer_place items x) ≡ true
          by_found (q, up, inl e) = in_run_from x e
          by_found (q, up, inr h) = outer_from x q (boxes_before items (first_of run)) i up (omega (arith, h, first_place))

          by_order : (node_of first.item ≡ node_of x) ⊎ ((node_of first.item < node_of x) ⊎ (node_of x < node_of first.item)) → is_from (boxes_before items (first_of run)) (outer_place items x) ≡ true
          by_order (inl e) = in_run_from x (ap (λ (z : Item). z.run) (sym (same_item first.item x first.inside i e)) ∙ first.run_is)
          by_order (inr (inl after)) = by_found (find_parent x i after before)
          by_order (inr (inr more)) =
              let o = order items arranged x first.item i first.inside more in
              let within = own_place_within items arranged x i in
              absurd (omega (arith, o, within, first_place, p, l))

      anonymous_from : (x : Item) (other : List ℕ) → Contains items x → x.run ≡ Some other → (first_of other == node_of x) ≡ true → between ≡ boxes_before items (node_of x)
          → is_from (boxes_before items (first_of run)) (option_map (own_place items) x.part.parent) ≡ true
      anonymous_from x other i e t p = by_found (find_parent x i after before)
        where
          after : node_of first.item < node_of x
          after = earlier first.item x (boxes_before items (node_of first.item)) first.inside i (omega arith) (omega (arith, first_place, p, l))

          -- it begins another run than this
          other_run : x.run ≡ Some run → ⊥
          other_run same =
              let runs : other ≡ run = same_Some other run (sym e ∙ same) in
              let start : node_of first.item ≡ node_of x = first.node ∙ (ap first_of (sym runs) ∙ eqb-true (first_of other) (node_of x) t) in
              omega (arith, start, after)

          before : node_of x < node_of y
          before = by_order (cases_order (node_of x) (node_of y))
            where
              by_order : (node_of x ≡ node_of y) ⊎ ((node_of x < node_of y) ⊎ (node_of y < node_of x)) → node_of x < node_of y
              by_order (inl same) = absurd (other_run (ap (λ (z : Item). z.run) (same_item x y i j same) ∙ r))
              by_order (inr (inl less)) = less
              by_order (inr (inr more)) =
                  let o = order items arranged y x j i more in
                  let within = own_place_within items arranged y j in
                  absurd (omega (arith, o, within, p, m))

          by_found : (q : ℕ) × (x.part.parent ≡ Some q) × ((x.run ≡ Some run) ⊎ (boxes_before items (node_of first.item) ≤ own_place items q))
              → is_from (boxes_before items (first_of run)) (option_map (own_place items) x.part.parent) ≡ true
          by_found (q, up, inl same) = absurd (other_run same)
          by_found (q, up, inr h) =
              ap (λ (o : Option ℕ). is_from (boxes_before items (first_of run)) (option_map (own_place items) o)) up
              ∙ from_place (boxes_before items (first_of run)) (own_place items q) (omega (arith, h, first_place))

      by_box : IsBoxOf items between b → is_from (boxes_before items (first_of run)) b.parent ≡ true
      by_box (IsBoxOf.own x i p s) = ap (λ (c : BoxNode). is_from (boxes_before items (first_of run)) c.parent) s ∙ own_from x i p
      by_box (IsBoxOf.anonymous x other i e t p s) = ap (λ (c : BoxNode). is_from (boxes_before items (first_of run)) c.parent) s ∙ anonymous_from x other i e t p

  -- ---- between any box and one in it

  in_order : (at between child : ℕ) (b c : BoxNode) → IsBoxOf items between b → IsBoxOf items child c → c.parent ≡ Some at → at < between → between < child → is_from at b.parent ≡ true
  in_order at between child b c box (IsBoxOf.anonymous y run j r t p s) up l m =
      let q = known.firsts y run j r in
      let place : own_place items q.0 ≡ at = same_Some (own_place items q.0) at (sym (ap (option_map (own_place items)) q.1) ∙ (ap (λ (d : BoxNode). d.parent) (sym s) ∙ up)) in
      subst (λ k. is_from k b.parent ≡ true) place (in_element between b y q.0 box j q.1 (omega (arith, place, l)) (omega (arith, p, m)))
  in_order at between child b c box (IsBoxOf.own y j p s) up l m = by_run y.run refl
    where
      outer : outer_place items y ≡ Some at
      outer = ap (λ (d : BoxNode). d.parent) (sym s) ∙ up

      by_parent : y.run ≡ None → (o : Option ℕ) → y.part.parent ≡ o → is_from at b.parent ≡ true
      by_parent none None e = absurd (let alone = outer_alone items y.part y.run none e in let both : None ≡ Some at = sym alone ∙ outer in cc)
      by_parent none (Some q) e =
          let place : own_place items q ≡ at = same_Some (own_place items q) at (sym (outer_own items y.part y.run q none e) ∙ outer) in
          let alone : own_place items (node_of y) ≡ boxes_before items (node_of y) = own_alone y j none in
          subst (λ k. is_from k b.parent ≡ true) place (in_element between b y q box j e (omega (arith, place, l)) (omega (arith, p, m, alone)))

      by_run : (o : Option (List ℕ)) → y.run ≡ o → is_from at b.parent ≡ true
      by_run None e = by_parent e y.part.parent refl
      by_run (Some run) e =
          let place : boxes_before items (first_of run) ≡ at = same_Some (boxes_before items (first_of run)) at (sym (outer_run items y.part y.run run e) ∙ outer) in
          subst (λ k. is_from k b.parent ≡ true) place (in_anonymous between b y run box j e (omega (arith, place, l)) (omega (arith, p, m)))

-- ---- the page

module _ (nodes : List Node) (styles : List Style) (page : IsPage nodes) where
  -- a part is in the run around it
  pub in_run : (x : Item) (run : List ℕ) → Contains (items_of (page_parts nodes styles)) x → x.run ≡ Some run → Contains run (node_of x)
  in_run x run i e =
      let up = run_parent (page_parts nodes styles) x run i e in
      let found = found_in (has_node (node_of x)) (map nodes_of (wrapped_in (parts_in (page_parts nodes styles) up.0))) run (sym (run_in nodes styles page x up.0 i up.1) ∙ e) in
      let has = any_in (λ k. k == node_of x) run found.1 in
      subst (λ k. Contains run k) (eqb-true has.0 (node_of x) has.2) has.1

  kids_rise : (q : ℕ) → Rises 0 (map (λ (p : Part). p.node) (parts_in (page_parts nodes styles) q))
  kids_rise q = rises_filter (λ (p : Part). p.node) (λ (p : Part). is_in q p.parent) 0 (page_parts nodes styles) (page_rises nodes (tree_styles nodes styles))

  kid_of : (x : Item) (q : ℕ) → Contains (items_of (page_parts nodes styles)) x → x.part.parent ≡ Some q → Contains (parts_in (page_parts nodes styles) q) x.part
  kid_of x q i up = to_filter (λ (p : Part). is_in q p.parent) (page_parts nodes styles) x.part (item_part (page_parts nodes styles) x i) (ap (is_in q) up ∙ eq-eqb q q refl)

  same_part : (x : Item) (p : Part) → Contains (items_of (page_parts nodes styles)) x → Contains (page_parts nodes styles) p → node_of x ≡ p.node → x.part ≡ p
  same_part x p i j e = unique_in (λ (p : Part). p.node) 0 (page_parts nodes styles) x.part p (page_rises nodes (tree_styles nodes styles)) (item_part (page_parts nodes styles) x i) j e

  -- a run as a list of parts
  record IsListOf (q : ℕ) (run : List ℕ) : Type 0 where
    list : List Part
    inside : Contains (wrapped_in (parts_in (page_parts nodes styles) q)) list
    nodes_are : nodes_of list ≡ run

  list_of : (x : Item) (run : List ℕ) (q : ℕ) → Contains (items_of (page_parts nodes styles)) x → x.run ≡ Some run → x.part.parent ≡ Some q → IsListOf q run
  list_of x run q i e up =
      let found = found_in (has_node (node_of x)) (map nodes_of (wrapped_in (parts_in (page_parts nodes styles) q))) run (sym (run_in nodes styles page x q i up) ∙ e) in
      let from = from_map nodes_of (wrapped_in (parts_in (page_parts nodes styles) q)) run found.0 in
      record { list = from.0; inside = from.1; nodes_are = from.2 }

  -- the part of a node in it
  part_in : (q : ℕ) (run : List ℕ) (l : IsListOf q run) (k : ℕ) → Contains run k → (p : Part) × Contains l.list p × (p.node ≡ k)
  part_in q run l k i = from_map (λ (p : Part). p.node) l.list k (subst (λ l. Contains l k) (sym l.nodes_are) i)

  kid_in : (q : ℕ) (run : List ℕ) (l : IsListOf q run) (p : Part) → Contains l.list p → Contains (page_parts nodes styles) p × (p.parent ≡ Some q)
  kid_in q run l p i =
      let kid = from_filter (λ (p : Part). is_in q p.parent) (page_parts nodes styles) p (from_runs (parts_in (page_parts nodes styles) q) l.list p (wrapped_runs (parts_in (page_parts nodes styles) q) l.list l.inside) i) in
      (kid.0, is_in_some q p.parent kid.1)

  entry_parent : (x : Item) → Contains (items_of (page_parts nodes styles)) x → slice_get (map (λ (n : Node). n.parent) nodes) (node_of x) ≡ Some x.part.parent
  entry_parent x i =
      let k = item_known nodes styles page x i in
      slice_get-map (λ (n : Node). n.parent) nodes (node_of x) ∙ (ap (option_map (λ (n : Node). n.parent)) k.node_is ∙ ap Some (sym (ap (λ (p : Part). p.parent) k.is)))

  from_some : (low : ℕ) (o : Option ℕ) → IsTrue (is_from low o) → (q : ℕ) × (o ≡ Some q) × (low ≤ q)
  from_some low None t = absurd (cc)
  from_some low (Some q) t = let l = ltb-true low (suc q) t in (q, refl, omega (arith, l))

  page_in_order : AreInOrder (items_of (page_parts nodes styles))
  page_in_order = record {
    between = λ x y p i j up l m. from_some p x.part.parent (page.in_order p (node_of x) (node_of y) x.part.parent (entry_parent y j ∙ ap Some up) (entry_parent x i) l m);
    firsts = λ x run i e.
        let up = run_parent (page_parts nodes styles) x run i e in
        let list = list_of x run up.0 i e up.1 in
        let run_known = (page_arranged nodes styles page).runs x run i e in
        let m = run_known.members (first_of run) run_known.first_in in
        let p = part_in up.0 run list (first_of run) run_known.first_in in
        let kid = kid_in up.0 run list p.0 p.1 in
        let same = same_part m.item p.0 m.inside kid.0 (m.node ∙ sym p.2) in
        (up.0, up.1, record { item = m.item; inside = m.inside; node = m.node; run_is = m.run_is; parent = ap (λ (p : Part). p.parent) same ∙ kid.1 });
    unbroken = λ a x b run q i j k r s up_a up_x up_b l m.
        let list = list_of a run q i r up_a in
        let p = part_in q run list (node_of a) (in_run a run i r) in
        let z = part_in q run list (node_of b) (in_run b run k s) in
        let node_p = p.2 in
        let node_z = z.2 in
        let kids = parts_in (page_parts nodes styles) q in
        let inside = whole kids 0 (kids_rise q) list.list p.0 z.0 x.part (wrapped_runs kids list.list list.inside) p.1 z.1 (kid_of x q j up_x) (omega (arith, node_p, l)) (omega (arith, node_z, m)) in
        let has : Contains run (node_of x) = subst (λ l. Contains l (node_of x)) list.nodes_are (to_map (λ (p : Part). p.node) list.list x.part inside) in
        let runs = map nodes_of (wrapped_in kids) in
        let there : Contains runs run = subst (λ n. Contains runs n) list.nodes_are (to_map nodes_of (wrapped_in kids) list.list list.inside) in
        run_in nodes styles page x q j up_x ∙ find_run 0 runs run (node_of x) (rises_wrapped 0 kids (kids_rise q)) there has;
  }

  root_is_whole : (b : BoxNode) → slice_get (page_boxes nodes styles) 0 ≡ Some b → is_fragmented b.kind ≡ false
  root_is_whole b e = by_box (page_box_is nodes styles page 0 b e)
    where
      by_box : IsBoxOf (items_of (page_parts nodes styles)) 0 b → is_fragmented b.kind ≡ false
      by_box (IsBoxOf.anonymous x run i r t p s) = ap (λ (c : BoxNode). is_fragmented c.kind) s
      by_box (IsBoxOf.own x i p s) =
          let from = own_place_from (items_of (page_parts nodes styles)) (page_arranged nodes styles page) x i in
          let none = no_parent (items_of (page_parts nodes styles)) (page_arranged nodes styles page) x i (omega (arith, from, p)) in
          let k = item_known nodes styles page x i in
          let alone : k.entry.parent ≡ None = sym (ap (λ (p : Part). p.parent) k.is) ∙ none in
          let root = eq-eqb (node_of x) 0 (root_has_none nodes (tree_styles nodes styles) page (node_of x) k.entry k.node_is alone) in
          ap (λ (c : BoxNode). is_fragmented c.kind) s ∙ (ap (λ (p : Part). is_fragmented p.kind) k.is ∙ (ap (λ t. is_fragmented (kind_of_node t k.entry.body k.style)) root ∙ root_whole k.entry.body k.style))

  parent_named : (k : ℕ) (o : Option ℕ) → slice_get (map (λ (b : BoxNode). b.parent) (page_boxes nodes styles)) k ≡ Some o → (b : BoxNode) × (slice_get (page_boxes nodes styles) k ≡ Some b) × (b.parent ≡ o)
  parent_named k o e = by_box (slice_get (page_boxes nodes styles) k) refl (sym (slice_get-map (λ (b : BoxNode). b.parent) (page_boxes nodes styles) k) ∙ e)
    where
      by_box : (there : Option BoxNode) → slice_get (page_boxes nodes styles) k ≡ there → option_map (λ (b : BoxNode). b.parent) there ≡ Some o → (b : BoxNode) × (slice_get (page_boxes nodes styles) k ≡ Some b) × (b.parent ≡ o)
      by_box None f g = absurd (cc)
      by_box (Some b) f g = (b, f, same_Some b.parent o g)

  boxes_in_order : IsInOrder (map (λ (b : BoxNode). b.parent) (page_boxes nodes styles))
  boxes_in_order at between child parent e f after before =
      let c = parent_named child (Some at) e in
      let b = parent_named between parent f in
      subst (λ o. IsTrue (is_from at o)) b.2
      (in_order (items_of (page_parts nodes styles)) (page_arranged nodes styles page) page_in_order at between child b.0 c.0
      (page_box_is nodes styles page between b.0 b.1) (page_box_is nodes styles page child c.0 c.1) c.2 after before)

pub tree_of_page : (nodes : List Node) (styles : List Style) (fonts : List Font) → IsPage nodes → AreStylesOf nodes styles fonts → blocks_in_inlines (page_parts nodes styles) ≡ []
    → IsBoxTree (page_boxes nodes styles) (tree_styles nodes styles) fonts (tree_parents nodes)
tree_of_page nodes styles fonts page styled none = box_tree nodes styles fonts page styled none (root_is_whole nodes styles page) (root_first nodes styles page) (among_kids nodes styles page) (boxes_in_order nodes styles page)
    (text-in nodes styles page) (anonymous-in nodes styles page)
