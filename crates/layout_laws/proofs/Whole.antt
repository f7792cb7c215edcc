-- Each box is in the box that it names, so each is on the page; and each shown element has a box.
use Rattle.std.proofs.Common.{◌≡◌, ◌≢◌, ℕ, zero, suc, ◌+◌, ◌<◌, Bool, true, false, not, ◌==◌, ◌&&◌, ◌||◌, List, [], ◌∷◌, map, length, Contains, Option, Some, None, option_map, option_and_then, slice_get, encode_utf8_all, IsTrue, refl, sym, ◌∙◌, ap, subst, arith, if◌then◌else◌, eq-eqb, eqb-true, ltb-true, nat_lt, ⊎_elim}
use Rattle.std.proofs.lemmas.Bool.{and_parts}
use Rattle.std.specs.List.{list_all, list_any}
use Rattle.std.specs.Option.{option_map_or}
use Rattle.std.specs.Str.{chars}
use Rattle.std.proofs.lemmas.Option.{slice_get_within}
use Rattle.viz_base.specs.Pages.{IsPage, is_element_at, parent_fits}
use Rattle.viz_base.specs.Trees.{ascends, has_box, is_chars, is_in_parent}
use Rattle.viz_base.specs.declared.nodes.Node.{Node}
use Rattle.viz_base.specs.declared.styles.Style.{Style}
use Rattle.viz_base.specs.declared.trees.BoxNode.{BoxNode}
use Rattle.viz_base.specs.declared.trees.Kind.TheVariants as of_kind
use Rattle.viz_base.proofs.ListLemmas.{slice_some, in_flat_map, later_member}
use Rattle.layout_semantics.specs.Blocks.{parent_of as parent_of_box}
use Rattle.layout_semantics.specs.Order.{kids_of, roots, IsOnPage}
use Rattle.layout_semantics.specs.Elements.{is_closed, is_hidden, is_shown, node_passes, ancestors, parent_of}
use Rattle.layout_semantics.specs.Lists.{one_if}
use Rattle.layout_semantics.specs.Parts.{Part, Level, level_of, is_context, kind_of_node}
use Rattle.layout_semantics.specs.WhiteSpace.{is_in}
use Rattle.layout_semantics.specs.BoxTrees.{Item, boxes_before, own_place, outer_place, first_of, has_node, nodes_of, kid_place, kid_places, items_in, items_of, own_box, anonymous_box, begins_run, parts_in, wrapped_in, page_parts, page_boxes, tree_styles, tree_style_of, viewport_clip, is_block_level, is_floated_level}
use Rattle.layout_laws.proofs.Members.{to_map, to_filter, any_in, any_from, no_member, first_member, first_or_later}
use Rattle.layout_laws.proofs.Places.{node_of, before_none}
use Rattle.layout_laws.proofs.Kids.{own_box_at, anonymous_box_at, own_place_is, own_place_from}
use Rattle.layout_laws.proofs.Nesting.{IsBoxOf}
use Rattle.layout_laws.proofs.Above.{parent_is}
use Rattle.layout_laws.proofs.Runs.{run_parent, found_in}
use Rattle.layout_laws.proofs.BoxLaws.{page_arranged, ascending}
use Rattle.layout_laws.proofs.BoxFacts.{item_known, page_box_is, hidden_alike, tree_style_at}
use Rattle.layout_laws.proofs.BoxContent.{upwards_within}
use Rattle.layout_laws.proofs.TextLengths.{length_encoded}
use Rattle.layout_laws.proofs.TreeFacts.{element_of, no_parent, root_alone, shown_boxed}
use Rattle.layout_laws.proofs.Sorts.{run_in}

-- ---- each box is in the box that it names

module _ (nodes : List Node) (styles : List Style) (page : IsPage nodes) where
  -- a part is in the run around it
  in_its_run : (x : Item) (run : List ℕ) → Contains (items_of (page_parts nodes styles)) x → x.run ≡ Some run → Contains run (node_of x)
  in_its_run x run i e =
      let up = run_parent (page_parts nodes styles) x run i e in
      let f = found_in (has_node (node_of x)) (map nodes_of (wrapped_in (parts_in (page_parts nodes styles) up.0))) run (sym (run_in nodes styles page x up.0 i up.1) ∙ e) in
      let has = any_in (λ k. k == node_of x) run f.1 in
      subst (λ k. Contains run k) (eqb-true has.0 (node_of x) has.2) has.1

  -- the kids of an element's own box: those of the parts in it
  in_own_kids : (y : Item) (q k : ℕ) → Contains (items_of (page_parts nodes styles)) y → y.part.parent ≡ Some q → Contains (kid_place (items_of (page_parts nodes styles)) y) k
      → (b : BoxNode) × (slice_get (page_boxes nodes styles) (own_place (items_of (page_parts nodes styles)) q) ≡ Some b) × Contains b.kids k
  in_own_kids y q k i e j =
      let arranged = page_arranged nodes styles page in
      let up = arranged.parents y q i e in
      let kid = to_filter (λ (item : Item). is_in q item.part.parent) (items_of (page_parts nodes styles)) y i (ap (is_in q) e ∙ eq-eqb q q refl) in
      let there = in_flat_map (kid_place (items_of (page_parts nodes styles))) (items_in (items_of (page_parts nodes styles)) q) y k kid j in (
        own_box (items_of (page_parts nodes styles)) up.parent,
        ap (λ n. slice_get (page_boxes nodes styles) (own_place (items_of (page_parts nodes styles)) n)) (sym up.node) ∙ own_box_at (items_of (page_parts nodes styles)) arranged up.parent up.inside,
        subst (λ n. Contains (kid_places (items_of (page_parts nodes styles)) n) k) (sym up.node) there,
      )

  some_same : {x y : ℕ} → Some x ≡ Some y → x ≡ y
  some_same e = cc

  own_by_parent : (p : Part) (o : Option ℕ) (at : ℕ) → p.parent ≡ o → Contains (items_of (page_parts nodes styles)) (record { part = p; run = None }) → option_map (own_place (items_of (page_parts nodes styles))) o ≡ Some at
      → (b : BoxNode) × (slice_get (page_boxes nodes styles) at ≡ Some b) × Contains b.kids (own_place (items_of (page_parts nodes styles)) p.node)
  own_by_parent p None at up i e = absurd (cc)
  own_by_parent p (Some q) at up i e =
      let there = in_own_kids (record { part = p; run = None }) q (own_place (items_of (page_parts nodes styles)) p.node) i up (first_member [] refl) in
      (there.0, ap (slice_get (page_boxes nodes styles)) (sym (some_same e)) ∙ there.1, there.2)

  own_by_run : (p : Part) (run : Option (List ℕ)) (at : ℕ) → Contains (items_of (page_parts nodes styles)) (record { part = p; run = run }) → outer_place (items_of (page_parts nodes styles)) (record { part = p; run = run }) ≡ Some at
      → (b : BoxNode) × (slice_get (page_boxes nodes styles) at ≡ Some b) × Contains b.kids (own_place (items_of (page_parts nodes styles)) p.node)
  own_by_run p None at i e = own_by_parent p p.parent at refl i e
  own_by_run p (Some run) at i e =
      let arranged = page_arranged nodes styles page in
      let known = arranged.runs (record { part = p; run = Some run }) run i refl in
      let first = known.members (first_of run) known.first_in in
      let place : boxes_before (items_of (page_parts nodes styles)) (node_of first.item) ≡ at = ap (boxes_before (items_of (page_parts nodes styles))) first.node ∙ some_same e in (
        anonymous_box (items_of (page_parts nodes styles)) first.item.part run,
        ap (slice_get (page_boxes nodes styles)) (sym place) ∙ anonymous_box_at (items_of (page_parts nodes styles)) arranged first.item run first.inside first.run_is (eq-eqb (first_of run) (node_of first.item) (sym first.node)),
        to_map (own_place (items_of (page_parts nodes styles))) run p.node (in_its_run (record { part = p; run = Some run }) run i refl),
      )

  begin_place : (p : Part) (o : Option (List ℕ)) (run : List ℕ) → o ≡ Some run → (first_of run == p.node) ≡ true → Contains (kid_place (items_of (page_parts nodes styles)) (record { part = p; run = o })) (boxes_before (items_of (page_parts nodes styles)) p.node)
  begin_place p None run e t = absurd (cc)
  begin_place p (Some r) run e t = by_same (run_same e)
    where
      run_same : {x y : List ℕ} → Some x ≡ Some y → x ≡ y
      run_same e = cc

      one : (b : Bool) → b ≡ true → Contains (one_if b (boxes_before (items_of (page_parts nodes styles)) p.node)) (boxes_before (items_of (page_parts nodes styles)) p.node)
      one true e = first_member [] refl
      one false e = absurd (cc)

      by_same : r ≡ run → Contains (kid_place (items_of (page_parts nodes styles)) (record { part = p; run = Some r })) (boxes_before (items_of (page_parts nodes styles)) p.node)
      by_same s = one (first_of r == p.node) (ap (λ (l : List ℕ). first_of l == p.node) s ∙ t)

  pub kid_in_box : (k : ℕ) (c : BoxNode) (at : ℕ) → slice_get (page_boxes nodes styles) k ≡ Some c → c.parent ≡ Some at → (b : BoxNode) × (slice_get (page_boxes nodes styles) at ≡ Some b) × Contains b.kids k
  kid_in_box k c at e up = by_box (page_box_is nodes styles page k c e)
    where
      by_box : IsBoxOf (items_of (page_parts nodes styles)) k c → (b : BoxNode) × (slice_get (page_boxes nodes styles) at ≡ Some b) × Contains b.kids k
      by_box (IsBoxOf.own y i p s) =
          let there = own_by_run y.part y.run at i (ap (λ (c : BoxNode). c.parent) (sym s) ∙ up) in
          (there.0, there.1, subst (λ n. Contains there.0.kids n) (sym p) there.2)
      by_box (IsBoxOf.anonymous y run i r t p s) =
          let parent = run_parent (page_parts nodes styles) y run i r in
          let outer : option_map (own_place (items_of (page_parts nodes styles))) y.part.parent ≡ Some at = ap (λ (c : BoxNode). c.parent) (sym s) ∙ up in
          let place : own_place (items_of (page_parts nodes styles)) parent.0 ≡ at = some_same (ap (option_map (own_place (items_of (page_parts nodes styles)))) (sym parent.1) ∙ outer) in
          let there = in_own_kids y parent.0 (boxes_before (items_of (page_parts nodes styles)) (node_of y)) i parent.1 (begin_place y.part y.run run r t) in
          (there.0, ap (slice_get (page_boxes nodes styles)) (sym place) ∙ there.1, subst (λ n. Contains there.0.kids n) (sym p) there.2)

  pub in_its_box : (at kid : ℕ) → parent_of_box (page_boxes nodes styles) kid ≡ Some at → Contains (kids_of (page_boxes nodes styles) at) kid
  in_its_box at kid e = by_kid (slice_get (page_boxes nodes styles) kid) refl e
    where
      by_kid : (o : Option BoxNode) → slice_get (page_boxes nodes styles) kid ≡ o → option_and_then (λ (c : BoxNode). c.parent) o ≡ Some at → Contains (kids_of (page_boxes nodes styles) at) kid
      by_kid None f up = absurd (cc)
      by_kid (Some c) f up =
          let there = kid_in_box kid c at f up in
          subst (λ (o : Option BoxNode). Contains (option_map_or (λ (b : BoxNode). b.kids) o []) kid) (sym there.1) there.2

  -- ---- the root

  -- a part in no element is the root's
  root_node : (x : Item) → Contains (items_of (page_parts nodes styles)) x → x.part.parent ≡ None → node_of x ≡ 0
  root_node x i e =
      let k = item_known nodes styles page x i in
      let parent : k.entry.parent ≡ None = sym (ap (λ (p : Part). p.parent) k.is) ∙ e in
      let fits : IsTrue (parent_fits nodes (node_of x) k.entry.parent) = page.parents (node_of x) k.entry k.node_is in
      eqb-true (node_of x) 0 (subst (λ (o : Option ℕ). IsTrue (parent_fits nodes (node_of x) o)) parent fits)

  no_run : (x : Item) → Contains (items_of (page_parts nodes styles)) x → x.part.parent ≡ None → (o : Option (List ℕ)) → x.run ≡ o → o ≡ None
  no_run x i n None e = refl
  no_run x i n (Some run) e = absurd (let up = run_parent (page_parts nodes styles) x run i e in let p = up.1 in cc)

  -- its place is the first
  root_place : (x : Item) → Contains (items_of (page_parts nodes styles)) x → x.part.parent ≡ None → own_place (items_of (page_parts nodes styles)) (node_of x) ≡ 0
  root_place x i e =
      let arranged = page_arranged nodes styles page in
      let node = root_node x i e in
      let none : boxes_before (items_of (page_parts nodes styles)) (node_of x) ≡ 0 = before_none 0 (items_of (page_parts nodes styles)) (node_of x) arranged.rises (omega (arith, node)) in
      let independent : begins_run x ≡ false = ap (λ (o : Option (List ℕ)). option_map_or (λ run. first_of run == node_of x) o false) (no_run x i e x.run refl) in
      own_place_is (items_of (page_parts nodes styles)) arranged x i ∙ (ap (λ (b : Bool). boxes_before (items_of (page_parts nodes styles)) (node_of x) + (if b then 1 else 0)) independent ∙ omega (arith, none))

  outer_is_none : (p : Part) (run : Option (List ℕ)) → outer_place (items_of (page_parts nodes styles)) (record { part = p; run = run }) ≡ None → p.parent ≡ None
  outer_is_none p (Some run) e = absurd (cc)
  outer_is_none p None e = by_parent p.parent e
    where
      by_parent : (o : Option ℕ) → option_map (own_place (items_of (page_parts nodes styles))) o ≡ None → o ≡ None
      by_parent None e = refl
      by_parent (Some q) e = absurd (cc)

  -- a box in no box is the first
  first_alone : (k : ℕ) (c : BoxNode) → slice_get (page_boxes nodes styles) k ≡ Some c → c.parent ≡ None → k ≡ 0
  first_alone k c e up = by_box (page_box_is nodes styles page k c e)
    where
      by_box : IsBoxOf (items_of (page_parts nodes styles)) k c → k ≡ 0
      by_box (IsBoxOf.own x i p s) = p ∙ root_place x i (outer_is_none x.part x.run (ap (λ (c : BoxNode). c.parent) (sym s) ∙ up))
      by_box (IsBoxOf.anonymous x run i r t p s) =
          let parent = run_parent (page_parts nodes styles) x run i r in
          let some : option_map (own_place (items_of (page_parts nodes styles))) x.part.parent ≡ None = ap (λ (c : BoxNode). c.parent) (sym s) ∙ up in
          absurd (let p = parent.1 in let q = ap (option_map (own_place (items_of (page_parts nodes styles)))) p in cc)

  -- the box of the first node is the first, and has its number
  pub root_first : (b : BoxNode) → slice_get (page_boxes nodes styles) 0 ≡ Some b → b.node ≡ 0
  root_first b e = by_box (page_box_is nodes styles page 0 b e) (root_alone nodes styles page b e)
    where
      by_box : IsBoxOf (items_of (page_parts nodes styles)) 0 b → b.parent ≡ None → b.node ≡ 0
      by_box (IsBoxOf.own x i p s) up =
          ap (λ (c : BoxNode). c.node) s ∙ root_node x i (outer_is_none x.part x.run (ap (λ (c : BoxNode). c.parent) (sym s) ∙ up))
      by_box (IsBoxOf.anonymous x run i r t p s) up =
          let parent = run_parent (page_parts nodes styles) x run i r in
          let some : option_map (own_place (items_of (page_parts nodes styles))) x.part.parent ≡ None = ap (λ (c : BoxNode). c.parent) (sym s) ∙ up in
          absurd (let p = parent.1 in let q = ap (option_map (own_place (items_of (page_parts nodes styles)))) p in cc)

  -- each other box is among those in its parent
  pub among_kids : (at : ℕ) (b : BoxNode) → slice_get (page_boxes nodes styles) at ≡ Some b → is_in_parent (page_boxes nodes styles) at b.parent ≡ true
  among_kids at b e = by_parent b.parent refl
    where
      by_parent : (o : Option ℕ) → b.parent ≡ o → is_in_parent (page_boxes nodes styles) at o ≡ true
      by_parent None up = eq-eqb at 0 (first_alone at b e up)
      by_parent (Some p) up =
          let there = kid_in_box at b p e up in
          ap (λ (o : Option BoxNode). option_map_or (λ (outer : BoxNode). list_any (λ k. at == k) outer.kids) o false) there.1
          ∙ any_from (λ k. at == k) there.0.kids at there.2 (eq-eqb at at refl)

  -- ---- each box is on the page

  ascends_above : (low : ℕ) (ks : List ℕ) (k : ℕ) → IsTrue (ascends low ks) → Contains ks k → low < k
  ascends_above low [] k a i = no_member i
  ascends_above low (j ∷ ks) k a i =
      let both = and_parts (nat_lt low j) (ascends j ks) a in
      let first = ltb-true low j both.0 in
      ⊎_elim
      (λ e. omega (arith, first, e))
      (λ h. let rest = ascends_above j ks k both.1 h in omega (arith, first, rest))
      (first_or_later j ks k i)

  on_page_to : (n k : ℕ) → k < n → k < length (page_boxes nodes styles) → IsOnPage (page_boxes nodes styles) k
  on_page_to zero k l h = absurd (omega (arith, l))
  on_page_to (suc n) k l h = by_box (slice_some (page_boxes nodes styles) k h) (λ j m g. on_page_to n j m g)
    where
      roots_first : (boxes : List BoxNode) → 0 < length boxes → Contains (roots boxes) 0
      roots_first [] l = absurd (omega (arith, l))
      roots_first (b ∷ bs) l = (0, omega arith, refl)

      by_parent : (c : BoxNode) → slice_get (page_boxes nodes styles) k ≡ Some c → (o : Option ℕ) → c.parent ≡ o → ((j : ℕ) → j < n → j < length (page_boxes nodes styles) → IsOnPage (page_boxes nodes styles) j) → IsOnPage (page_boxes nodes styles) k
      by_parent c e None up again =
          let first = first_alone k c e up in
          subst (IsOnPage (page_boxes nodes styles)) (sym first) (IsOnPage.root 0 (roots_first (page_boxes nodes styles) (omega (arith, h))))
      by_parent c e (Some at) up again =
          let there = kid_in_box k c at e up in
          let kids : Contains (kids_of (page_boxes nodes styles) at) k = subst (λ (o : Option BoxNode). Contains (option_map_or (λ (b : BoxNode). b.kids) o []) k) (sym there.1) there.2 in
          let below = ascends_above at (kids_of (page_boxes nodes styles) at) k (ascending nodes styles page at) kids in
          IsOnPage.inside at k (again at (omega (arith, below, l)) (omega (arith, below, h))) kids

      by_box : (c : BoxNode) × (slice_get (page_boxes nodes styles) k ≡ Some c) → ((j : ℕ) → j < n → j < length (page_boxes nodes styles) → IsOnPage (page_boxes nodes styles) j) → IsOnPage (page_boxes nodes styles) k
      by_box f again = by_parent f.0 f.1 f.0.parent refl again

  pub on_page : (k : ℕ) → k < length (page_boxes nodes styles) → IsOnPage (page_boxes nodes styles) k
  on_page k h = on_page_to (suc k) k (omega arith) h

-- ---- which nodes have boxes

all_same : (f g : ℕ → Bool) (xs : List ℕ) → ((x : ℕ) → Contains xs x → f x ≡ g x) → list_all f xs ≡ list_all g xs
all_same f g [] h = refl
all_same f g (x ∷ xs) h = let here = h x (first_member _ refl) in let rest = all_same f g xs (λ y i. h y (later_member _ i)) in ap (λ b. b && list_all f xs) here ∙ ap (λ b. g x && b) rest

module _ (nodes : List Node) (styles : List Style) (page : IsPage nodes) where
  hidden_same : (at : ℕ) → at < length nodes → is_hidden (tree_styles nodes styles) at ≡ is_hidden styles at
  hidden_same at l = let n = slice_some nodes at l in hidden_alike nodes styles at n.0 n.1

  shown_same : (at : ℕ) → at < length nodes → is_shown nodes (tree_styles nodes styles) at ≡ is_shown nodes styles at
  shown_same at l =
      let above = all_same (λ a. not (is_hidden (tree_styles nodes styles) a || node_passes is_closed nodes a)) (λ a. not (is_hidden styles a || node_passes is_closed nodes a)) (ancestors nodes at)
      (λ a i.
      let within = upwards_within (length nodes) nodes page (parent_of nodes at) a (λ q p. let below = (parent_is nodes page at q p).0 in omega (arith, below, l)) i in
      ap (λ b. not (b || node_passes is_closed nodes a)) (hidden_same a within)) in
      ap (λ b. not b && list_all (λ a. not (is_hidden (tree_styles nodes styles) a || node_passes is_closed nodes a)) (ancestors nodes at)) (hidden_same at l)
      ∙ ap (λ b. not (is_hidden styles at) && b) above

  pub element_boxed : (at : ℕ) → at < length styles → is_element_at nodes at ≡ true → is_shown nodes styles at ≡ true → has_box (page_boxes nodes styles) at ≡ true
  element_boxed at l e h =
      let n = element_of nodes styles page at (slice_get nodes at) refl e in
      let s = slice_some styles at l in
      let given : slice_get (tree_styles nodes styles) at ≡ Some (tree_style_of (viewport_clip nodes styles) ((at, n.0), s.0)) =
      tree_style_at nodes styles at n.0 n.1 ∙ ap (λ (o : Option Style). option_map (tree_style_of (viewport_clip nodes styles)) (option_map (λ (s : Style). ((at, n.0), s)) o)) s.1 in
      shown_boxed nodes styles page at n.0 (tree_style_of (viewport_clip nodes styles) ((at, n.0), s.0)) n.1 given (shown_same at (slice_get_within nodes at n.0 n.1) ∙ h) n.2

  -- ---- texts

  pub text_not_empty : (at : ℕ) (b : BoxNode) → slice_get (page_boxes nodes styles) at ≡ Some b → is_chars b.kind ≡ true → b.chars ≢ []
  text_not_empty at b e c empty = by_box (page_box_is nodes styles page at b e)
    where
      by_bare : (k : Bool) (n : ℕ) → k ≡ true → (k && n == 0) ≡ false → n ≡ 0 → ⊥
      by_bare k n t f z = let g : (k && n == 0) ≡ true = ap (λ b. b && n == 0) t ∙ eq-eqb n 0 z in cc

      by_box : IsBoxOf (items_of (page_parts nodes styles)) at b → ⊥
      by_box (IsBoxOf.anonymous x run i r t p s) = let k : is_chars of_kind.Anon ≡ is_chars b.kind = ap (λ (c : BoxNode). is_chars c.kind) (sym s) in cc
      by_box (IsBoxOf.own x i p s) =
          let k = item_known nodes styles page x i in
          let kind : is_chars x.part.kind ≡ true = ap (λ (c : BoxNode). is_chars c.kind) (sym s) ∙ c in
          let bytes : encode_utf8_all x.part.text ≡ [] = ap (λ (c : BoxNode). c.chars) (sym s) ∙ empty in
          let none : length x.part.text ≡ 0 = sym (length_encoded x.part.text) ∙ (ap (λ (bs : List ℕ). length (chars bs)) bytes ∙ length_encoded []) in
          by_bare (is_chars x.part.kind) (length x.part.text) kind k.not_bare none

  -- ---- the root

  pub root_box : (b : BoxNode) → slice_get (page_boxes nodes styles) 0 ≡ Some b → (b.node ≡ 0) × (b.context ≡ true) × (b.block_level ≡ true)
  root_box b e = by_box (page_box_is nodes styles page 0 b e)
    where
      by_box : IsBoxOf (items_of (page_parts nodes styles)) 0 b → (b.node ≡ 0) × (b.context ≡ true) × (b.block_level ≡ true)
      by_box (IsBoxOf.own x i p s) =
          let arranged = page_arranged nodes styles page in
          let from = own_place_from (items_of (page_parts nodes styles)) arranged x i in
          let none = no_parent (items_of (page_parts nodes styles)) arranged x i (omega (arith, from, p)) in
          let k = item_known nodes styles page x i in
          let node = root_node nodes styles page x i none in
          let root : (node_of x == 0) ≡ true = eq-eqb (node_of x) 0 node in
          let level : x.part.level ≡ Level.block = ap (λ (p : Part). p.level) k.is ∙ ap (λ (t : Bool). level_of t k.entry.body k.style) root in
          let context : x.part.context ≡ true = ap (λ (p : Part). p.context) k.is ∙ ap (λ (t : Bool). is_context t (level_of t k.entry.body k.style) (kind_of_node t k.entry.body k.style) k.style) root in
          (ap (λ (c : BoxNode). c.node) s ∙ node, ap (λ (c : BoxNode). c.context) s ∙ context, ap (λ (c : BoxNode). c.block_level) s ∙ ap (λ (l : Level). is_block_level l || is_floated_level l) level)
      by_box (IsBoxOf.anonymous x run i r t p s) =
          let arranged = page_arranged nodes styles page in
          let parent = run_parent (page_parts nodes styles) x run i r in
          let none = no_parent (items_of (page_parts nodes styles)) arranged x i (omega (arith, p)) in
          absurd (let q = parent.1 in cc)
