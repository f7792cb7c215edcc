-- The walk over boxes gives each the place that the definition does.
use Rattle.std.proofs.Common.{◌≡◌, ◌≢◌, ℕ, suc, ◌+◌, ◌-◌, ◌==◌, ◌<◌, ◌≤◌, nat_lt, Bool, true, false, List, [], ◌∷◌, ◌++◌, map, flat_map, length, get_or, set, Option, Some, None, option_map, option_and_then, slice_get, IsTrue, refl, sym, ◌∙◌, ap, subst, arith, if◌then◌else◌, append_assoc, length-append, eq-eqb, length-set, get_or-set_same, get_or-set_other, ltb-true, inl, inr, ◌⊎◌, Contains, ⊎_elim}
use Rattle.std.proofs.lemmas.List.Elements.{Contains-append_right, Contains-push_cases}
use Rattle.std.proofs.lemmas.Bool.{and_parts, cases_eq}
use Rattle.std.proofs.lemmas.List.{map-append}
use Rattle.std.specs.Option.{option_map_or}
use Rattle.viz_base.specs.Pages.{IsPage}
use Rattle.viz_base.specs.Trees.{ascends}
use Rattle.viz_base.specs.declared.nodes.Node.{Node}
use Rattle.viz_base.specs.declared.styles.Style.{Style}
use Rattle.viz_base.specs.declared.trees.BoxNode.{BoxNode}
use Rattle.viz_base.proofs.ListLemmas.{rises_from, later_member}
use Rattle.viz_base.specs.Orders.{Rises}
use Rattle.layout_semantics.specs.Parts.{Part}
use Rattle.layout_semantics.specs.BoxTrees.{Item, begins_run, box_count, boxes_at, boxes_before, first_of, items_of, outer_place, own_place, page_boxes, page_parts, with_anonymous}
use Rattle.layout_laws.proofs.Members.{to_map, no_member, first_member, first_or_later}
use Rattle.layout_laws.proofs.Places.{node_of, before_first, before_later, before_none}
use Rattle.layout_laws.proofs.Kids.{IsArranged, counts, own_place_is}
use Rattle.layout_laws.proofs.Nesting.{kids_ascend, kids_place}
use Rattle.layout_laws.proofs.BoxLaws.{page_arranged}
use Rattle.layout_laws.proofs.Whole.{in_its_box}
use Rattle.page_boxes.specs.steps.Places.{bare_anonymous, bare_begun, bare_boxes, bare_own, begins, count_walk, outer_in, own_place_at, place_around, places_walk}
use Rattle.page_boxes.proofs.KidSteps.{AreNested, bare}

abbrev pub part_of_item : Item → Part
part_of_item x = x.part

abbrev pub lead_of_run : Option (List ℕ) → Option ℕ
lead_of_run run = option_map first_of run

begins_is : (x : Item) → begins x.part (lead_of_run x.run) ≡ begins_run x
begins_is x = by_run x.run
  where
    by_run : (o : Option (List ℕ)) → option_map_or (λ first. first == x.part.node) (option_map first_of o) false ≡ option_map_or (λ run. first_of run == x.part.node) o false
    by_run None = refl
    by_run (Some run) = refl

-- ---- how many boxes come before

abbrev counted : List Item → ℕ
counted [] = 0
counted (d ∷ done) = box_count d + counted done

before_at : (low : ℕ) (done : List Item) (x : Item) (rest : List Item) → Rises low (map node_of (done ++ x ∷ rest)) → boxes_before (done ++ x ∷ rest) (node_of x) ≡ counted done
before_at low [] x rest r = before_first x rest (node_of x) (omega arith) ∙ before_none (suc (node_of x)) rest (node_of x) r.1 (omega arith)
before_at low (d ∷ done) x rest r =
    let above = rises_from (suc (node_of d)) (map node_of (done ++ x ∷ rest)) (node_of x) r.1 (to_map node_of (done ++ x ∷ rest) x (Contains-append_right done (x ∷ rest) x (first_member _ refl))) in
    before_later d (done ++ x ∷ rest) (node_of x) (omega (arith, above)) ∙ ap (λ k. box_count d + k) (before_at (suc (node_of d)) done x rest r.1)

in_before : (low : ℕ) (done : List Item) (x : Item) (rest : List Item) (y : Item) → Rises low (map node_of (done ++ x ∷ rest)) → Contains (done ++ x ∷ rest) y → node_of y < node_of x → Contains done y
in_before low [] x rest y r i l =
    ⊎_elim
    (λ e. absurd (omega (arith, l, ap node_of e)))
    (λ j. let above = rises_from (suc (node_of x)) (map node_of rest) (node_of y) r.1 (to_map node_of rest y j) in absurd (omega (arith, above, l)))
    (first_or_later x rest y i)
in_before low (d ∷ done) x rest y r i l =
    ⊎_elim (λ e. first_member done e) (λ j. later_member done (in_before (suc (node_of d)) done x rest y r.1 j l)) (first_or_later d (done ++ x ∷ rest) y i)

in_upto : (low : ℕ) (done : List Item) (x : Item) (rest : List Item) (y : Item) → Rises low (map node_of (done ++ x ∷ rest)) → Contains (done ++ x ∷ rest) y → node_of y ≤ node_of x → Contains (done ++ x ∷ []) y
in_upto low [] x rest y r i l =
    ⊎_elim
    (λ e. first_member [] e)
    (λ j. let above = rises_from (suc (node_of x)) (map node_of rest) (node_of y) r.1 (to_map node_of rest y j) in absurd (omega (arith, above, l)))
    (first_or_later x rest y i)
in_upto low (d ∷ done) x rest y r i l =
    ⊎_elim (λ e. first_member (done ++ x ∷ []) e) (λ j. later_member (done ++ x ∷ []) (in_upto (suc (node_of d)) done x rest y r.1 j l)) (first_or_later d (done ++ x ∷ rest) y i)

-- ---- the boxes of one part

module _ (items : List Item) (arranged : IsArranged items) where
  pub record TableIs (n : ℕ) (places : List ℕ) (done : List Item) : Type 0 where
    pub size : length places ≡ n
    pub each : (y : Item) → Contains done y → get_or places (node_of y) 0 ≡ own_place items (node_of y)

  pub table_start : (n : ℕ) (places : List ℕ) → length places ≡ n → TableIs n places []
  table_start n places size = record { size = size; each = λ y i. no_member i }

  around_is : (n : ℕ) (places : List ℕ) (done : List Item) (x : Item) (rest : List Item) → items ≡ done ++ x ∷ rest → TableIs n places done → Contains items x → place_around places x.part.parent ≡ option_map (own_place items) x.part.parent
  around_is n places done x rest split table i = by_parent x.part.parent refl
    where
      by_parent : (o : Option ℕ) → x.part.parent ≡ o → option_map (λ node. get_or places node 0) o ≡ option_map (own_place items) o
      by_parent None e = refl
      by_parent (Some q) e =
          let up = arranged.parents x q i e in
          let before : node_of up.parent < node_of x = let b = up.before in let s = up.node in omega (arith, b, s) in
          let there = in_before 0 done x rest up.parent (subst (λ l. Rises 0 (map node_of l)) split arranged.rises) (subst (λ l. Contains l up.parent) split up.inside) before in
          ap Some (ap (λ k. get_or places k 0) (sym up.node) ∙ (table.each up.parent there ∙ ap (own_place items) up.node))

  place_is : (done : List Item) (x : Item) (rest : List Item) → items ≡ done ++ x ∷ rest → Contains items x → own_place_at (counted done) x.part (lead_of_run x.run) ≡ own_place items (node_of x)
  place_is done x rest split i =
      let before : boxes_before items (node_of x) ≡ counted done = ap (λ l. boxes_before l (node_of x)) split ∙ before_at 0 done x rest (subst (λ l. Rises 0 (map node_of l)) split arranged.rises) in
      ap (λ b. counted done + (if b then 1 else 0)) (begins_is x) ∙ (ap (λ k. k + (if begins_run x then 1 else 0)) (sym before) ∙ sym (own_place_is items arranged x i))

  -- a run begins with its least node
  first_least : (run : List ℕ) (k : ℕ) → Rises 0 run → Contains run k → first_of run ≤ k
  first_least [] k r i = no_member i
  first_least (f ∷ run) k r i =
      ⊎_elim (λ e. omega (arith, e)) (λ j. let above = rises_from (suc f) run k r.1 j in omega (arith, above)) (first_or_later f run k i)

  outer_is : ((x : Item) (run : List ℕ) → Contains items x → x.run ≡ Some run → Contains run (node_of x)) → (n : ℕ) (changed : List ℕ) (done : List Item) (p : Part) (run : Option (List ℕ)) (rest : List Item)
      → items ≡ done ++ record { part = p; run = run } ∷ rest → TableIs n changed (done ++ record { part = p; run = run } ∷ []) → Contains items (record { part = p; run = run })
      → outer_in changed (option_map (own_place items) p.parent) (lead_of_run run) ≡ outer_place items (record { part = p; run = run })
  outer_is holds n changed done p None rest split next i = refl
  outer_is holds n changed done p (Some run) rest split next i =
      let known = arranged.runs (record { part = p; run = Some run }) run i refl in
      let first = known.members (first_of run) known.first_in in
      let least = first_least run p.node known.rises (holds (record { part = p; run = Some run }) run i refl) in
      let there = in_upto 0 done (record { part = p; run = Some run }) rest first.item (subst (λ l. Rises 0 (map node_of l)) split arranged.rises) (subst (λ l. Contains l first.item) split first.inside) (let s = first.node in omega (arith, s, least)) in
      let begun : begins_run first.item ≡ true = ap (λ (o : Option (List ℕ)). option_map_or (λ r. first_of r == node_of first.item) o false) first.run_is ∙ eq-eqb (first_of run) (node_of first.item) (sym first.node) in
      let own : own_place items (node_of first.item) ≡ boxes_before items (node_of first.item) + 1 = own_place_is items arranged first.item first.inside ∙ ap (λ b. boxes_before items (node_of first.item) + (if b then 1 else 0)) begun in
      ap (λ k. Some (k - 1)) (ap (λ k. get_or changed k 0) (sym first.node) ∙ (next.each first.item there ∙ own))
      ∙ (ap Some (omega arith) ∙ ap (λ k. Some (boxes_before items k)) first.node)

  bare_is : (p : Part) (run : Option (List ℕ)) → map bare (boxes_at items (record { part = p; run = run }))
      ≡ bare_begun p (lead_of_run run) (option_map (own_place items) p.parent) ++ bare_own p (outer_place items (record { part = p; run = run })) ∷ []
  bare_is p None = refl
  bare_is p (Some run) = by_test (first_of run == p.node)
    where
      by_test : (t : Bool) → map bare (with_anonymous items (record { part = p; run = Some run }) t (Some run))
          ≡ (if t then bare_anonymous p (option_map (own_place items) p.parent) ∷ [] else []) ++ bare_own p (outer_place items (record { part = p; run = Some run })) ∷ []
      by_test true = refl
      by_test false = refl

  -- ---- all parts

  counted_more : (done : List Item) (x : Item) → counted (done ++ x ∷ []) ≡ counted done + box_count x
  counted_more [] x = omega arith
  counted_more (d ∷ done) x = let rest = counted_more done x in omega (arith, rest)

  next_count : (count : ℕ) (x : Item) → own_place_at count x.part (lead_of_run x.run) + 1 ≡ count + box_count x
  next_count count x = ap (λ b. count + (if b then 1 else 0) + 1) (begins_is x) ∙ by_test (begins_run x)
    where
      by_test : (t : Bool) → count + (if t then 1 else 0) + 1 ≡ count + (if t then 2 else 1)
      by_test true = omega arith
      by_test false = omega arith

  table_more : (n : ℕ) (places : List ℕ) (done : List Item) (x : Item) (place : ℕ) → TableIs n places done → node_of x < n → place ≡ own_place items (node_of x) → TableIs n (set places (node_of x) place) (done ++ x ∷ [])
  table_more n places done x place table l is = record {
    size = length-set places (node_of x) place ∙ table.size;
    each = λ y i. by_place y (Contains-push_cases done x y i) (cases_eq (node_of y) (node_of x));
  }
    where
      by_place : (y : Item) → Contains done y ⊎ (x ≡ y) → (node_of y ≡ node_of x) ⊎ (node_of y ≢ node_of x) → get_or (set places (node_of x) place) (node_of y) 0 ≡ own_place items (node_of y)
      by_place y j (inl e) =
          ap (λ k. get_or (set places (node_of x) place) k 0) e
          ∙ (get_or-set_same places (node_of x) place 0 (let s = table.size in omega (arith, l, s)) ∙ (is ∙ ap (own_place items) (sym e)))
      by_place y (inl j) (inr ne) = get_or-set_other places (node_of x) (node_of y) place 0 ne ∙ table.each y j
      by_place y (inr e) (inr ne) = absurd (ne (ap node_of (sym e)))

  pub walk_is : ((x : Item) (run : List ℕ) → Contains items x → x.run ≡ Some run → Contains run (node_of x)) → (n : ℕ) → ((x : Item) → Contains items x → node_of x < n)
      → (places : List ℕ) (leads : List (Option ℕ)) (at : ℕ) (done rest : List Item) → items ≡ done ++ rest → TableIs n places done
      → ((j : ℕ) (x : Item) → slice_get rest j ≡ Some x → get_or leads (at + j) None ≡ lead_of_run x.run)
      → places_walk places (counted done) leads at (map part_of_item rest) ≡ map bare (flat_map (boxes_at items) rest)
  walk_is holds n within places leads at done [] split table known = refl
  walk_is holds n within places leads at done (x ∷ rest) split table known =
      let i : Contains items x = subst (λ l. Contains l x) (sym split) (Contains-append_right done (x ∷ rest) x (first_member _ refl)) in
      let zero_more : at + 0 ≡ at = omega arith in
      let lead : get_or leads at None ≡ lead_of_run x.run = ap (λ k. get_or leads k None) (sym zero_more) ∙ known 0 x refl in
      let place = place_is done x rest split i in
      let around = around_is n places done x rest split table i in
      let next_table = table_more n places done x (own_place_at (counted done) x.part (lead_of_run x.run)) table (within x i) place in
      let own = outer_is holds n (set places (node_of x) (own_place_at (counted done) x.part (lead_of_run x.run))) done x.part x.run rest split next_table i in
      let count : own_place_at (counted done) x.part (lead_of_run x.run) + 1 ≡ counted (done ++ x ∷ []) = next_count (counted done) x ∙ sym (counted_more done x) in
      let later : (j : ℕ) → (at + 1) + j ≡ at + suc j = λ j. omega arith in
      let again = walk_is holds n within (set places (node_of x) (own_place_at (counted done) x.part (lead_of_run x.run))) leads (at + 1) (done ++ x ∷ []) rest (split ∙ sym (append_assoc done (x ∷ []) rest)) next_table
      (λ j y e. ap (λ k. get_or leads k None) (later j) ∙ known (suc j) y e) in
      ap (λ o. bare_boxes places (counted done) x.part o ++ places_walk (set places (node_of x) (own_place_at (counted done) x.part o)) (own_place_at (counted done) x.part o + 1) leads (at + 1) (map part_of_item rest)) lead
      ∙ (ap (λ k. bare_boxes places (counted done) x.part (lead_of_run x.run) ++ places_walk (set places (node_of x) (own_place_at (counted done) x.part (lead_of_run x.run))) k leads (at + 1) (map part_of_item rest)) count
      ∙ (ap (λ l. bare_boxes places (counted done) x.part (lead_of_run x.run) ++ l) again
      ∙ (ap (λ o. (bare_begun x.part (lead_of_run x.run) o ++ bare_own x.part (outer_in (set places (node_of x) (own_place_at (counted done) x.part (lead_of_run x.run))) o (lead_of_run x.run)) ∷ []) ++ map bare (flat_map (boxes_at items) rest)) around
      ∙ (ap (λ o. (bare_begun x.part (lead_of_run x.run) (option_map (own_place items) x.part.parent) ++ bare_own x.part o ∷ []) ++ map bare (flat_map (boxes_at items) rest)) own
      ∙ (ap (λ l. l ++ map bare (flat_map (boxes_at items) rest)) (sym (bare_is x.part x.run))
      ∙ sym (map-append bare (boxes_at items x) (flat_map (boxes_at items) rest)))))))

  pub count_is : (leads : List (Option ℕ)) (at : ℕ) (rest : List Item) → ((j : ℕ) (x : Item) → slice_get rest j ≡ Some x → get_or leads (at + j) None ≡ lead_of_run x.run)
      → count_walk leads at (map part_of_item rest) ≡ length (flat_map (boxes_at items) rest)
  count_is leads at [] known = refl
  count_is leads at (x ∷ rest) known =
      let zero_more : at + 0 ≡ at = omega arith in
      let later : (j : ℕ) → (at + 1) + j ≡ at + suc j = λ j. omega arith in
      let lead : get_or leads at None ≡ lead_of_run x.run = ap (λ k. get_or leads k None) (sym zero_more) ∙ known 0 x refl in
      ap (λ o. (if begins x.part o then 2 else 1) + count_walk leads (at + 1) (map part_of_item rest)) lead
      ∙ (ap (λ b. (if b then 2 else 1) + count_walk leads (at + 1) (map part_of_item rest)) (begins_is x)
      ∙ (ap (λ k. box_count x + k) (count_is leads (at + 1) rest (λ j y e. ap (λ k. get_or leads k None) (later j) ∙ known (suc j) y e))
      ∙ (ap (λ k. k + length (flat_map (boxes_at items) rest)) (sym (counts items x))
      ∙ sym (length-append (boxes_at items x) (flat_map (boxes_at items) rest)))))

-- ---- the boxes of a page are nested

rises_of : (low : ℕ) (ks : List ℕ) → IsTrue (ascends low ks) → Rises (suc low) ks
rises_of low [] a = tt
rises_of low (k ∷ ks) a = let both = and_parts (nat_lt low k) (ascends k ks) a in (ltb-true low k both.0, rises_of k ks both.1)

pub page_nested : (nodes : List Node) (styles : List Style) → IsPage nodes → AreNested (page_boxes nodes styles)
page_nested nodes styles page = record {
  rise = λ at b e. rises_of at b.kids (kids_ascend (items_of (page_parts nodes styles)) (page_arranged nodes styles page) at b e);
  name = λ at k b e i. kids_place (items_of (page_parts nodes styles)) (page_arranged nodes styles page) at b e k i;
  inside = λ k at c e p. by_box k at (slice_get (page_boxes nodes styles) at) refl (in_its_box nodes styles page at k (ap (option_and_then (λ (x : BoxNode). x.parent)) e ∙ p));
}
  where
    by_box : (k at : ℕ) (o : Option BoxNode) → slice_get (page_boxes nodes styles) at ≡ o → Contains (option_map_or (λ (b : BoxNode). b.kids) o []) k → (b : BoxNode) × (slice_get (page_boxes nodes styles) at ≡ Some b) × Contains b.kids k
    by_box k at None e i = no_member i
    by_box k at (Some b) e i = (b, e, i)
