-- The boxes of a page keep what a box tree does.
use Rattle.std.proofs.Common.{◌≡◌, ℕ, zero, suc, ◌<◌, ◌≤◌, Bool, true, false, not, nat_lt, ◌==◌, ◌&&◌, ◌||◌, List, [], map, zip, length, Option, Some, None, option_map, option_and_then, slice_get, IsTrue, refl, sym, ◌∙◌, ap, subst, arith, if◌then◌else◌, eq-eqb, eqb-true, lt-ltb, Contains}
use Rattle.std.specs.List.{list_any, list_all, enumerate_from}
use Rattle.std.specs.Option.{option_map_or}
use Rattle.std.specs.Str.{chars}
use Rattle.std.proofs.lemmas.Option.{slice_get_within, slice_get-map, get_or_from_slice_get}
use Rattle.std.proofs.lemmas.List.FromFn.{length-enumerate_from}
use Rattle.std.proofs.lemmas.List.{length-map}
use Rattle.viz_base.specs.Pages.{IsPage, is_element}
use Rattle.viz_base.specs.Orders.{IsInOrder}
use Rattle.viz_base.specs.Trees.{IsBoxTree, IsBoxAt, AreAlikeButSize, has_box, has_element, is_chars, is_element_box, is_fragmented, is_in_parent, is_leaf, is_line, is_same_size, named_nodes}
use Rattle.viz_base.specs.declared.fonts.Font.{Font}
use Rattle.viz_base.specs.declared.nodes.Body.{Body}
use Rattle.viz_base.specs.declared.nodes.Node.{Node}
use Rattle.viz_base.specs.declared.styles.Style.{Style}
use Rattle.viz_base.specs.declared.trees.BoxNode.{BoxNode}
use Rattle.viz_base.specs.declared.trees.Kind.TheVariants as of_kind
use Rattle.viz_base.proofs.ListLemmas.{slice_some, length_zip}
use Rattle.layout_semantics.specs.Elements.{is_shown, parent_of, ancestors, upwards}
use Rattle.layout_semantics.specs.Parts.{Part, kind_of_node}
use Rattle.layout_semantics.specs.WhiteSpace.{is_in}
use Rattle.layout_semantics.specs.BoxTrees.{Item, items_of, own_box, own_place, boxes_before, outer_place, box_count, run_around, page_parts, page_boxes, tree_styles, tree_style, tree_style_of, tree_parents, viewport_clip, styled_element}
use Rattle.layout_semantics.specs.Refusals.{blocks_in_inlines}
use Rattle.layout_laws.specs.Styled.{AreStylesOf, is_at_or_above}
use Rattle.layout_laws.proofs.Members.{any_in, any_from, all_from, all_in, to_map, no_member, by_member, member_place}
use Rattle.layout_laws.proofs.Places.{node_of}
use Rattle.layout_laws.proofs.Kids.{IsArranged, order, own_place_from, own_box_at}
use Rattle.layout_laws.proofs.Nesting.{IsBoxOf, kids_ascend, kids_name, count_least}
use Rattle.layout_laws.proofs.Above.{parent_is, parent_shown}
use Rattle.layout_laws.proofs.Runs.{run_parent}
use Rattle.layout_laws.proofs.PageParts.{no_chars, to_page}
use Rattle.layout_laws.proofs.BoxLaws.{page_arranged}
use Rattle.layout_laws.proofs.BoxFacts.{item_known, item_part, no_line, page_box_is, size_where_replaced, tree_style_at}
use Rattle.layout_laws.proofs.BoxContent.{box_shown, leaf_has_none, upwards_within}
use Rattle.layout_laws.proofs.TextLengths.{length_encoded, text_within}
use Rattle.layout_laws.proofs.Sorts.{one_sort}

-- ---- the styles of the tree

pub tree_styles_length : (nodes : List Node) (styles : List Style) → length styles ≡ length nodes → length (tree_styles nodes styles) ≡ length nodes
tree_styles_length nodes styles e =
    length-map (zip (enumerate_from 0 nodes) styles) (tree_style_of (viewport_clip nodes styles))
    ∙ (length_zip (enumerate_from 0 nodes) styles (length-enumerate_from 0 nodes ∙ sym e) ∙ e)

-- a style of the tree is one that was given
record IsGiven (nodes : List Node) (styles : List Style) (at : ℕ) (n : Node) (s : Style) : Type 0 where
  given : Style
  there : slice_get styles at ≡ Some given
  is : s ≡ tree_style (styled_element at n == 0) (is_in (styled_element at n) (viewport_clip nodes styles)) given

given_by : (nodes : List Node) (styles : List Style) (at : ℕ) (n : Node) (s : Style) → slice_get nodes at ≡ Some n → slice_get (tree_styles nodes styles) at ≡ Some s → IsGiven nodes styles at n s
given_by nodes styles at n s e f = by_style (slice_get styles at) refl (sym (tree_style_at nodes styles at n e) ∙ f)
  where
    by_style : (o : Option Style) → slice_get styles at ≡ o → option_map (tree_style_of (viewport_clip nodes styles)) (option_map (λ (s : Style). ((at, n), s)) o) ≡ Some s → IsGiven nodes styles at n s
    by_style None g h = absurd (cc)
    by_style (Some t) g h = let same : tree_style (styled_element at n == 0) (is_in (styled_element at n) (viewport_clip nodes styles)) t ≡ s = cc in record { given = t; there = g; is = sym same }

alike_tree : (a b : Bool) (s t : Style) → AreAlikeButSize s t → AreAlikeButSize (tree_style a b s) (tree_style a b t)
alike_tree a b s t e = record {
  display = e.display;
  float = ap (λ (o : Option _). if a then None else o) e.float;
  clear = e.clear;
  clips = ap (λ (c : Bool). not b && c) e.clips;
  width = e.width;
  min_width = e.min_width;
  max_width = e.max_width;
  height = e.height;
  min_height = e.min_height;
  max_height = e.max_height;
  margin = e.margin;
  padding = e.padding;
  border = e.border;
  font = e.font;
  line = e.line;
  valign = e.valign;
  align = e.align;
  wraps = e.wraps;
}

-- ---- lists

pub slice_in : {A : Type 0} (xs : List A) (k : ℕ) (x : A) → slice_get xs k ≡ Some x → Contains xs x
slice_in xs k x e = (k, slice_get_within xs k x e, get_or_from_slice_get xs k x x e)

-- ---- the root

outer_none : (items : List Item) (p : Part) (run : Option (List ℕ)) → p.parent ≡ None → run ≡ None → outer_place items (record { part = p; run = run }) ≡ None
outer_none items p None e f = ap (option_map (own_place items)) e
outer_none items p (Some run) e f = absurd (cc)

module _ (items : List Item) (arranged : IsArranged items) where
  after_parents : (x : Item) (q : ℕ) → Contains items x → x.part.parent ≡ Some q → 1 ≤ boxes_before items (node_of x)
  after_parents x q i e =
      let up = arranged.parents x q i e in
      let o = order items arranged up.parent x up.inside i (subst (λ n. n < node_of x) (sym up.node) up.before) in
      let least : 1 ≤ box_count up.parent = count_least _ in
      omega (arith, o, least)

  pub no_parent : (x : Item) → Contains items x → boxes_before items (node_of x) ≡ 0 → x.part.parent ≡ None
  no_parent x i z = by_parent x.part.parent refl
    where
      by_parent : (o : Option ℕ) → x.part.parent ≡ o → o ≡ None
      by_parent None e = refl
      by_parent (Some q) e = absurd (let l = after_parents x q i e in omega (arith, l, z))

module _ (nodes : List Node) (styles : List Style) (page : IsPage nodes) where
  pub root_alone : (b : BoxNode) → slice_get (page_boxes nodes styles) 0 ≡ Some b → b.parent ≡ None
  root_alone b e = by_box (page_box_is nodes styles page 0 b e)
    where
      by_run : (x : Item) → Contains (items_of (page_parts nodes styles)) x → x.part.parent ≡ None → (o : Option (List ℕ)) → x.run ≡ o → o ≡ None
      by_run x i n None e = refl
      by_run x i n (Some run) e = absurd (let up = run_parent (page_parts nodes styles) x run i e in let p = up.1 in cc)

      by_box : IsBoxOf (items_of (page_parts nodes styles)) 0 b → b.parent ≡ None
      by_box (IsBoxOf.own x i p s) =
          let from = own_place_from (items_of (page_parts nodes styles)) (page_arranged nodes styles page) x i in
          let none = no_parent (items_of (page_parts nodes styles)) (page_arranged nodes styles page) x i (omega (arith, from, p)) in
          ap (λ (c : BoxNode). c.parent) s ∙ outer_none (items_of (page_parts nodes styles)) x.part x.run none (by_run x i none x.run refl)
      by_box (IsBoxOf.anonymous x run i r t p s) =
          let up = run_parent (page_parts nodes styles) x run i r in
          absurd (let l = after_parents (items_of (page_parts nodes styles)) (page_arranged nodes styles page) x up.0 i up.1 in omega (arith, l, p))

  -- ---- texts

  characters : (at : ℕ) (b : BoxNode) → slice_get (page_boxes nodes styles) at ≡ Some b → length (chars b.chars) ≤ 262144
  characters at b e = by_box (page_box_is nodes styles page at b e)
    where
      by_box : IsBoxOf (items_of (page_parts nodes styles)) at b → length (chars b.chars) ≤ 262144
      by_box (IsBoxOf.own x i p s) =
          let own = length_encoded x.part.text in
          let most = text_within nodes (tree_styles nodes styles) page x.part (item_part (page_parts nodes styles) x i) in
          subst (λ (c : BoxNode). length (chars c.chars) ≤ 262144) (sym s) (omega (arith, own, most))
      by_box (IsBoxOf.anonymous x run i r t p s) =
          let none = length_encoded [] in
          subst (λ (c : BoxNode). length (chars c.chars) ≤ 262144) (sym s) (omega (arith, none))

  kinds : (at : ℕ) (b : BoxNode) → slice_get (page_boxes nodes styles) at ≡ Some b → is_line b.kind ≡ false
  kinds at b e = by_box (page_box_is nodes styles page at b e)
    where
      by_box : IsBoxOf (items_of (page_parts nodes styles)) at b → is_line b.kind ≡ false
      by_box (IsBoxOf.own x i p s) =
          let k = item_known nodes styles page x i in
          ap (λ (c : BoxNode). is_line c.kind) s ∙ (ap (λ (q : Part). is_line q.kind) k.is ∙ no_line k.entry.body (x.part.node == 0) k.style)
      by_box (IsBoxOf.anonymous x run i r t p s) = ap (λ (c : BoxNode). is_line c.kind) s

  leaves : (at : ℕ) (b : BoxNode) → slice_get (page_boxes nodes styles) at ≡ Some b → IsTrue (not (is_leaf b.kind) || (length b.kids == 0))
  leaves at b e = by_leaf (is_leaf b.kind) refl
    where
      by_leaf : (t : Bool) → is_leaf b.kind ≡ t → IsTrue (not t || (length b.kids == 0))
      by_leaf false l = refl
      by_leaf true l = ap (λ (ks : List ℕ). length ks == 0) (leaf_has_none nodes styles page at b e l)

  -- ---- which nodes have boxes

  boxed_shown : (node : ℕ) → has_box (page_boxes nodes styles) node ≡ true → (is_shown nodes (tree_styles nodes styles) node ≡ true) × (node < length nodes)
  boxed_shown node h =
      let there = any_in (λ (b : BoxNode). b.node == node) (page_boxes nodes styles) h in
      let place = member_place (page_boxes nodes styles) there.0 there.1 in
      subst (λ n. (is_shown nodes (tree_styles nodes styles) n ≡ true) × (n < length nodes)) (eqb-true there.0.node node there.2) (box_shown nodes styles page there.1.0 there.0 place)

  pub shown_boxed : (at : ℕ) (n : Node) (s : Style) → slice_get nodes at ≡ Some n → slice_get (tree_styles nodes styles) at ≡ Some s → is_shown nodes (tree_styles nodes styles) at ≡ true → is_element n.body ≡ true → has_box (page_boxes nodes styles) at ≡ true
  shown_boxed at n s e f h element =
      let p = to_page nodes (tree_styles nodes styles) at n s e f h element in
      let i = to_map (λ p. record { part = p; run = run_around (page_parts nodes styles) p }) (page_parts nodes styles) p.0 p.1 in
      let x = own_box_at (items_of (page_parts nodes styles)) (page_arranged nodes styles page) (record { part = p.0; run = run_around (page_parts nodes styles) p.0 }) i in
      any_from (λ (b : BoxNode). b.node == at) (page_boxes nodes styles) (own_box (items_of (page_parts nodes styles)) (record { part = p.0; run = run_around (page_parts nodes styles) p.0 }))
      (slice_in (page_boxes nodes styles) (own_place (items_of (page_parts nodes styles)) p.0.node) (own_box (items_of (page_parts nodes styles)) (record { part = p.0; run = run_around (page_parts nodes styles) p.0 })) x)
      (eq-eqb p.0.node at p.2)

  pub element_of : (q : ℕ) (o : Option Node) → slice_get nodes q ≡ o → option_map_or (λ (n : Node). is_element n.body) o false ≡ true → (n : Node) × (slice_get nodes q ≡ Some n) × (is_element n.body ≡ true)
  element_of q None e t = absurd (cc)
  element_of q (Some n) e t = (n, e, t)

  parent_boxed : length styles ≡ length nodes → (node q : ℕ) → has_box (page_boxes nodes styles) node ≡ true → parent_of nodes node ≡ Some q → has_box (page_boxes nodes styles) q ≡ true
  parent_boxed each node q h up =
      let here = boxed_shown node h in
      let shown = parent_shown nodes page (tree_styles nodes styles) node q here.1 up here.0 in
      let above = parent_is nodes page node q up in
      let n = element_of q (slice_get nodes q) refl above.1 in
      let size = tree_styles_length nodes styles each in
      let s = slice_some (tree_styles nodes styles) q (omega (arith, above.0, here.1, size)) in
      shown_boxed q n.0 s.0 n.1 s.1 shown.0 n.2

  above_boxed : length styles ≡ length nodes → (more : ℕ) (o : Option ℕ) (above : ℕ) → ((q : ℕ) → o ≡ Some q → has_box (page_boxes nodes styles) q ≡ true) → Contains (upwards more nodes o) above → has_box (page_boxes nodes styles) above ≡ true
  above_boxed each zero o above f i = no_member i
  above_boxed each (suc more) None above f i = no_member i
  above_boxed each (suc more) (Some q) above f i =
      by_member (λ a. has_box (page_boxes nodes styles) a ≡ true) q (upwards more nodes (parent_of nodes q)) above i
      (f q refl)
      (λ j. above_boxed each more (parent_of nodes q) above (λ r e. parent_boxed each q r (f q refl) e) j)

-- ---- the whole

no_element : (body : Body) (is_root : Bool) (s : Style) → is_chars (kind_of_node is_root body s) ≡ true → is_element body ≡ false
no_element body is_root s c = by_element (is_element body) refl
  where
    by_element : (t : Bool) → is_element body ≡ t → t ≡ false
    by_element true e = absurd (let n = no_chars body is_root s e in cc)
    by_element false e = refl

slice_below : {A : Type 0} (xs : List A) (at : ℕ) (x : A) (n : ℕ) → slice_get xs at ≡ Some x → length xs ≡ n → at < n
slice_below xs at x n e l = let within = slice_get_within xs at x e in omega (arith, within, l)

module _ (nodes : List Node) (styles : List Style) (fonts : List Font) (page : IsPage nodes) (styled : AreStylesOf nodes styles fonts) where
  size_of_styles : length (tree_styles nodes styles) ≡ length nodes
  size_of_styles = tree_styles_length nodes styles styled.one_each

  node_at : (at : ℕ) (s : Style) → slice_get (tree_styles nodes styles) at ≡ Some s → (n : Node) × (slice_get nodes at ≡ Some n)
  node_at at s e = slice_some nodes at (slice_below (tree_styles nodes styles) at s (length nodes) e size_of_styles)

  given_at : (at : ℕ) (s : Style) → slice_get (tree_styles nodes styles) at ≡ Some s → (n : Node) × (slice_get nodes at ≡ Some n) × IsGiven nodes styles at n s
  given_at at s e = let n = node_at at s e in (n.0, n.1, given_by nodes styles at n.0 s n.1 e)

  fonts_there : (at : ℕ) (s : Style) → slice_get (tree_styles nodes styles) at ≡ Some s → s.font < length fonts
  fonts_there at s e = let g = (given_at at s e).2 in subst (λ (t : Style). t.font < length fonts) (sym g.is) (styled.fonts_there at g.given g.there)

  names_at : (at : ℕ) (s : Style) → slice_get (tree_styles nodes styles) at ≡ Some s → list_all (is_at_or_above nodes at) (named_nodes s) ≡ true
  names_at at s e = let g = (given_at at s e).2 in subst (λ (t : Style). list_all (is_at_or_above nodes at) (named_nodes t) ≡ true) (sym g.is) (styled.names_above at g.given g.there)

  -- what is at or above a node has what it and what is above it have
  at_or_above : (P : ℕ → Type 0) (at above : ℕ) → is_at_or_above nodes at above ≡ true → P at → ((a : ℕ) → Contains (ancestors nodes at) a → P a) → P above
  at_or_above P at above h here up = by_first (above == at) refl h
    where
      by_first : (b : Bool) → (above == at) ≡ b → (b || list_any (λ a. a == above) (ancestors nodes at)) ≡ true → P above
      by_first true e t = subst P (sym (eqb-true above at e)) here
      by_first false e t = let r = any_in (λ a. a == above) (ancestors nodes at) t in subst P (eqb-true r.0 above r.2) (up r.0 r.1)

  nodes_there : (at : ℕ) (s : Style) → slice_get (tree_styles nodes styles) at ≡ Some s → IsTrue (list_all (λ n. nat_lt n (length (tree_styles nodes styles))) (named_nodes s))
  nodes_there at s e =
      let below = slice_get_within (tree_styles nodes styles) at s e in
      all_from (λ n. nat_lt n (length (tree_styles nodes styles))) (named_nodes s)
      (λ named i. at_or_above (λ n. nat_lt n (length (tree_styles nodes styles)) ≡ true) at named (all_in (is_at_or_above nodes at) (named_nodes s) named (names_at at s e) i)
      (lt-ltb at (length (tree_styles nodes styles)) below)
      (λ a j.
      let size = size_of_styles in
      let within = upwards_within (length nodes) nodes page (parent_of nodes at) a (λ q p. let l = (parent_is nodes page at q p).0 in omega (arith, l, below, size)) j in
      lt-ltb a (length (tree_styles nodes styles)) (omega (arith, within, size))))

  names_boxed : (at : ℕ) (s : Style) → IsTrue (has_box (page_boxes nodes styles) at) → slice_get (tree_styles nodes styles) at ≡ Some s → IsTrue (list_all (has_box (page_boxes nodes styles)) (named_nodes s))
  names_boxed at s h e =
      all_from (has_box (page_boxes nodes styles)) (named_nodes s)
      (λ named i. at_or_above (λ n. has_box (page_boxes nodes styles) n ≡ true) at named (all_in (is_at_or_above nodes at) (named_nodes s) named (names_at at s e) i) h
      (λ a j. above_boxed nodes styles page styled.one_each (length nodes) (parent_of nodes at) a (λ q p. parent_boxed nodes styles page styled.one_each at q h p) j))

  -- the parent of a node in the list of parents
  parent_from : (at q : ℕ) → slice_get (tree_parents nodes) at ≡ Some (Some q) → parent_of nodes at ≡ Some q
  parent_from at q e = by_node (slice_get nodes at) (sym (slice_get-map (λ (n : Node). n.parent) nodes at) ∙ e)
    where
      some_same : {x y : Option ℕ} → Some x ≡ Some y → x ≡ y
      some_same e = cc

      by_node : (o : Option Node) → option_map (λ (n : Node). n.parent) o ≡ Some (Some q) → option_and_then (λ (n : Node). n.parent) o ≡ Some q
      by_node None e = absurd (cc)
      by_node (Some n) e = some_same e

  text_entry : (at : ℕ) (b : BoxNode) → slice_get (page_boxes nodes styles) at ≡ Some b → is_chars b.kind ≡ true → (n : Node) × (slice_get nodes b.node ≡ Some n) × (is_element n.body ≡ false)
  text_entry at b e c = by_box (page_box_is nodes styles page at b e)
    where
      by_box : IsBoxOf (items_of (page_parts nodes styles)) at b → (n : Node) × (slice_get nodes b.node ≡ Some n) × (is_element n.body ≡ false)
      by_box (IsBoxOf.anonymous x run i r t p s) = absurd (let k : is_chars of_kind.Anon ≡ is_chars b.kind = ap (λ (c : BoxNode). is_chars c.kind) (sym s) in cc)
      by_box (IsBoxOf.own x i p s) =
          let k = item_known nodes styles page x i in
          let kind : is_chars (kind_of_node (x.part.node == 0) k.entry.body k.style) ≡ true = ap (λ (q : Part). is_chars q.kind) (sym k.is) ∙ (ap (λ (c : BoxNode). is_chars c.kind) (sym s) ∙ c) in
          (k.entry, ap (λ (c : BoxNode). slice_get nodes c.node) s ∙ k.node_is, no_element k.entry.body (x.part.node == 0) k.style kind)

  parents_boxed : (at q : ℕ) → IsTrue (has_box (page_boxes nodes styles) at) → slice_get (tree_parents nodes) at ≡ Some (Some q) → IsTrue (has_box (page_boxes nodes styles) q)
  parents_boxed at q h e = parent_boxed nodes styles page styled.one_each at q h (parent_from at q e)

  parent_by_node : (at q : ℕ) (n : Node) → slice_get nodes at ≡ Some n → parent_of nodes at ≡ Some q → n.parent ≡ Some q
  parent_by_node at q n e p = sym (ap (option_and_then (λ (n : Node). n.parent)) e) ∙ p

  -- the element whose style a text has, and that of an element
  styled_text : (at q : ℕ) (n : Node) → is_element n.body ≡ false → n.parent ≡ Some q → styled_element at n ≡ q
  styled_text at q n t p = ap (λ (b : Bool). if b then at else option_map_or (λ p. p) n.parent at) t ∙ ap (λ (o : Option ℕ). option_map_or (λ p. p) o at) p

  styled_own : (at : ℕ) (n : Node) → is_element n.body ≡ true → styled_element at n ≡ at
  styled_own at n t = ap (λ (b : Bool). if b then at else option_map_or (λ p. p) n.parent at) t

  texts_alike : (at : ℕ) (b : BoxNode) (q : ℕ) (s t : Style) → slice_get (page_boxes nodes styles) at ≡ Some b → IsTrue (is_chars b.kind) → slice_get (tree_parents nodes) b.node ≡ Some (Some q)
      → slice_get (tree_styles nodes styles) b.node ≡ Some s → slice_get (tree_styles nodes styles) q ≡ Some t → AreAlikeButSize s t
  texts_alike at b q s t e c p f g =
      let n = text_entry at b e c in
      let up = parent_from b.node q p in
      let above = parent_is nodes page b.node q up in
      let m = element_of nodes styles page q (slice_get nodes q) refl above.1 in
      let parent = parent_by_node b.node q n.0 n.1 up in
      let own = given_by nodes styles b.node n.0 s n.1 f in
      let outer = given_by nodes styles q m.0 t m.1 g in
      let alike = styled.texts_alike b.node q n.0 own.given outer.given n.1 n.2 parent own.there outer.there in
      let own_is : s ≡ tree_style (q == 0) (is_in q (viewport_clip nodes styles)) own.given =
      own.is ∙ ap (λ k. tree_style (k == 0) (is_in k (viewport_clip nodes styles)) own.given) (styled_text b.node q n.0 n.2 parent) in
      let outer_is : t ≡ tree_style (q == 0) (is_in q (viewport_clip nodes styles)) outer.given =
      outer.is ∙ ap (λ k. tree_style (k == 0) (is_in k (viewport_clip nodes styles)) outer.given) (styled_own q m.0 m.2) in
      subst (λ (u : Style). AreAlikeButSize u t) (sym own_is)
      (subst (λ (u : Style). AreAlikeButSize (tree_style (q == 0) (is_in q (viewport_clip nodes styles)) own.given) u) (sym outer_is)
      (alike_tree (q == 0) (is_in q (viewport_clip nodes styles)) own.given outer.given alike))

  texts_same_size : (at : ℕ) (b : BoxNode) (s : Style) → slice_get (page_boxes nodes styles) at ≡ Some b → IsTrue (is_chars b.kind) → slice_get (tree_styles nodes styles) b.node ≡ Some s → IsTrue (is_same_size s.size)
  texts_same_size at b s e c f =
      let n = text_entry at b e c in
      let own = given_by nodes styles b.node n.0 s n.1 f in
      subst (λ (u : Style). IsTrue (is_same_size u.size)) (sym own.is) (styled.texts_same_size b.node n.0 own.given n.1 n.2 own.there)

  box_fits : blocks_in_inlines (page_parts nodes styles) ≡ [] → (at : ℕ) (b : BoxNode) → slice_get (page_boxes nodes styles) at ≡ Some b → IsBoxAt (page_boxes nodes styles) (length (tree_styles nodes styles)) (tree_styles nodes styles) at b
  box_fits none at b e = record {
    node = let l = (box_shown nodes styles page at b e).1 in let size = size_of_styles in omega (arith, l, size);
    no_line = kinds nodes styles page at b e;
    size = size_where_replaced nodes styles page at b e;
    leaf = leaves nodes styles page at b e;
    characters = characters nodes styles page at b e;
    ascending = kids_ascend (items_of (page_parts nodes styles)) (page_arranged nodes styles page) at b e;
    named = kids_name (items_of (page_parts nodes styles)) (page_arranged nodes styles page) at b e;
    one_sort = one_sort nodes styles page none at b e;
  }

  -- what these promise is proved above and where it is called
  pub box_tree : blocks_in_inlines (page_parts nodes styles) ≡ [] → ((b : BoxNode) → slice_get (page_boxes nodes styles) 0 ≡ Some b → is_fragmented b.kind ≡ false)
      → ((b : BoxNode) → slice_get (page_boxes nodes styles) 0 ≡ Some b → b.node ≡ 0)
      → ((at : ℕ) (b : BoxNode) → slice_get (page_boxes nodes styles) at ≡ Some b → is_in_parent (page_boxes nodes styles) at b.parent ≡ true)
      → IsInOrder (map (λ (b : BoxNode). b.parent) (page_boxes nodes styles))
      → ((at : ℕ) (b : BoxNode) → slice_get (page_boxes nodes styles) at ≡ Some b → b.kind ≡ of_kind.Chars
      → is_element_box (page_boxes nodes styles) (slice_get (tree_parents nodes) b.node) ≡ true)
      → ((at : ℕ) (b : BoxNode) → slice_get (page_boxes nodes styles) at ≡ Some b → b.kind ≡ of_kind.Anon → has_element (page_boxes nodes styles) b.node ≡ true)
      → IsBoxTree (page_boxes nodes styles) (tree_styles nodes styles) fonts (tree_parents nodes)
  box_tree none whole first inside in_order texts anonymous = record {
    root = λ b e. root_alone nodes styles page b e;
    root_is_whole = whole;
    root_node = first;
    in_parents = inside;
    in_order = in_order;
    each = λ at b e. box_fits none at b e;
    fonts_there = fonts_there;
    nodes_there = nodes_there;
    one_parent_each = length-map nodes (λ (n : Node). n.parent) ∙ sym size_of_styles;
    parents_before = λ at q e. (parent_is nodes page at q (parent_from at q e)).0;
    parents_boxed = parents_boxed;
    names_boxed = names_boxed;
    texts_alike = texts_alike;
    texts_same_size = texts_same_size;
    texts_in_elements = texts;
    anonymous_in_elements = anonymous;
  }
