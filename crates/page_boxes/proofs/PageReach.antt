-- What the walk over reaches needs of the boxes of a page.
use Rattle.std.proofs.Common.{◌≡◌, ℕ, zero, suc, ◌==◌, ◌<◌, ◌≤◌, Bool, true, false, not, ◌||◌, List, [], ◌∷◌, length, replicate, Option, Some, None, option_map, unwrap_or, slice_get, encode_utf8_all, refl, sym, ◌∙◌, ap, subst, arith, inl, inr, ◌⊎◌, eqb-true, Contains}
use Rattle.std.proofs.lemmas.List.Elements.{Contains-append_cases}
use Rattle.std.specs.List.{list_any}
use Rattle.std.specs.Option.{option_map_or}
use Rattle.std.specs.Str.{chars}
use Rattle.std.proofs.lemmas.Option.{slice_get_within}
use Rattle.std.proofs.lemmas.Str.{chars-nil}
use Rattle.viz_base.specs.Pages.{IsPage, is_element, is_element_at}
use Rattle.viz_base.specs.Trees.{IsBoxTree, is_anon, is_chars, is_line, is_same_size, named_nodes}
use Rattle.viz_base.specs.declared.fonts.Font.{Font}
use Rattle.viz_base.specs.declared.lengths.Size.{Size}
use Rattle.viz_base.specs.declared.lengths.Size.TheVariants as of_size
use Rattle.viz_base.specs.declared.nodes.Node.{Node}
use Rattle.viz_base.specs.declared.styles.Style.{Style}
use Rattle.viz_base.specs.declared.trees.BoxNode.{BoxNode}
use Rattle.viz_base.specs.declared.trees.Kind.{Kind}
use Rattle.viz_base.specs.declared.trees.Kind.TheVariants as of_kind
use Rattle.layout_semantics.specs.Elements.{ancestors, parent_of, upwards}
use Rattle.viz_base.specs.FontSizes.{parent_in}
use Rattle.layout_semantics.specs.Lists.{one_if}
use Rattle.layout_semantics.specs.Parts.{Part, kind_of_node, shown_parts}
use Rattle.layout_semantics.specs.WhiteSpace.{is_bare}
use Rattle.layout_semantics.specs.BoxTrees.{Item, boxes_before, items_of, own_box, own_place, page_boxes, page_parts, tree_parents, tree_style_of, tree_styles, viewport_clip}
use Rattle.viz_base.specs.Reaches.{is_of_element}
use Rattle.viz_base.proofs.ListLemmas.{slice_some, rises_from, later_member}
use Rattle.layout_semantics.specs.Refusals.{blocks_in_inlines}
use Rattle.layout_laws.specs.Styled.{AreStylesOf, is_at_or_above}
use Rattle.layout_laws.proofs.Members.{all_in, any_in, from_one_if, no_member, first_member, first_or_later}
use Rattle.layout_laws.proofs.Places.{node_of}
use Rattle.layout_laws.proofs.Kids.{order, own_box_at, own_place_from, own_place_within}
use Rattle.layout_laws.proofs.Nesting.{IsBoxOf}
use Rattle.layout_laws.proofs.Runs.{run_parent}
use Rattle.layout_laws.proofs.Above.{ancestors_are, parent_is}
use Rattle.layout_laws.proofs.PageParts.{no_chars, part_parent}
use Rattle.layout_laws.proofs.BoxLaws.{page_arranged}
use Rattle.layout_laws.proofs.BoxFacts.{item_known, item_part, no_anon, no_line, page_box_is, tree_style_at}
use Rattle.page_boxes.proofs.DocumentOrder.{tree_of_page}
use Rattle.page_boxes.specs.steps.Spaces.{keeps_behind_part, spaces_walk, squeezed, squeezed_part}
use Rattle.page_boxes.specs.steps.Tables.{held, put}
use Rattle.page_boxes.proofs.PageSteps.{shown_fits, spaces_are, text_parent}
use Rattle.page_boxes.proofs.SpaceSteps.{HasText}
use Rattle.page_boxes.proofs.PlaceSteps.{page_nested}
use Rattle.page_boxes.proofs.ReachSteps.{AreKnown, HasBox}

parent_is_of : (nodes : List Node) (at : ℕ) → parent_in (tree_parents nodes) at ≡ parent_of nodes at
parent_is_of [] at = refl
parent_is_of (n ∷ ns) zero = refl
parent_is_of (n ∷ ns) (suc at) = parent_is_of ns at

same_of : (size : Size) → is_same_size size ≡ true → size ≡ of_size.Same
same_of of_size.Same e = refl
same_of (of_size.Default num den) e = absurd (cc)
same_of (of_size.Px c) e = absurd (cc)
same_of (of_size.Parent num den) e = absurd (cc)

-- an element's box is one of an element
of_three : (k : Kind) → is_chars k ≡ false → is_anon k ≡ false → is_line k ≡ false → is_of_element k ≡ true
of_three of_kind.Block a b c = refl
of_three of_kind.Anon a b c = absurd (cc)
of_three of_kind.Float a b c = refl
of_three of_kind.Atomic a b c = refl
of_three of_kind.Replaced a b c = refl
of_three of_kind.Inline a b c = refl
of_three of_kind.Chars a b c = absurd (cc)
of_three of_kind.Line a b c = absurd (cc)
of_three of_kind.Break a b c = refl

-- what is left of a box's text comes from its text
in_walk : (table : List Bool) (qs : List Part) (p : Part) → Contains (spaces_walk table qs) p → (q : Part) × Contains qs q × ((keeps : Bool) × (p ≡ squeezed_part keeps q))
in_walk table [] p i = no_member i
in_walk table (q ∷ qs) p i =
    by_place (Contains-append_cases (one_if (not (is_bare (squeezed_part (held table q.container false) q))) (squeezed_part (held table q.container false) q)) (spaces_walk (put table q.container (keeps_behind_part (held table q.container false) q)) qs) p i)
    (λ j. in_walk (put table q.container (keeps_behind_part (held table q.container false) q)) qs p j)
  where
    by_place : Contains (one_if (not (is_bare (squeezed_part (held table q.container false) q))) (squeezed_part (held table q.container false) q)) p ⊎ Contains (spaces_walk (put table q.container (keeps_behind_part (held table q.container false) q)) qs) p
        → (Contains (spaces_walk (put table q.container (keeps_behind_part (held table q.container false) q)) qs) p → (r : Part) × Contains qs r × ((keeps : Bool) × (p ≡ squeezed_part keeps r))) → (r : Part) × Contains (q ∷ qs) r × ((keeps : Bool) × (p ≡ squeezed_part keeps r))
    by_place (inl j) again = let here = from_one_if (not (is_bare (squeezed_part (held table q.container false) q))) (squeezed_part (held table q.container false) q) p j in (q, first_member _ refl, (held table q.container false, here.0))
    by_place (inr j) again = let r = again j in (r.0, later_member _ r.1, r.2)

module _ (nodes : List Node) (styles : List Style) (fonts : List Font) (page : IsPage nodes) (styled : AreStylesOf nodes styles fonts) (none : blocks_in_inlines (page_parts nodes styles) ≡ []) where
  tree : IsBoxTree (page_boxes nodes styles) (tree_styles nodes styles) fonts (tree_parents nodes)
  tree = tree_of_page nodes styles fonts page styled none

  abbrev items : List Item
  items = items_of (page_parts nodes styles)

  parent_of_item : (x : Item) → Contains items x → parent_of nodes (node_of x) ≡ x.part.parent
  parent_of_item x i = part_parent nodes (tree_styles nodes styles) page x.part (item_known nodes styles page x i)

  -- the box of an element that a part is in stands before it
  up_box : (x : Item) (q at : ℕ) → Contains items x → x.part.parent ≡ Some q → boxes_before items (node_of x) ≤ at → HasBox (page_boxes nodes styles) at q
  up_box x q at i e l =
      let arranged = page_arranged nodes styles page in
      let up = arranged.parents x q i e in
      let k = item_known nodes styles page up.parent up.inside in
      let within = own_place_within items arranged up.parent up.inside in
      let before : node_of up.parent < node_of x = let b = up.before in let s = up.node in omega (arith, b, s) in
      let ordered = order items arranged up.parent x up.inside i before in
      let element : is_element_at nodes q ≡ true = (parent_is nodes page (node_of x) q (parent_of_item x i ∙ e)).1 in
      let body : is_element k.entry.body ≡ true = sym (ap (λ (o : Option Node). option_map_or (λ (m : Node). is_element m.body) o false) (ap (slice_get nodes) (sym up.node) ∙ k.node_is)) ∙ element in
      record {
        place = own_place items (node_of up.parent);
        before = omega (arith, within, ordered, l);
        box = own_box items up.parent;
        there = own_box_at items arranged up.parent up.inside;
        node = up.node;
        own = ap is_of_element (ap (λ (p : Part). p.kind) k.is) ∙ of_three (kind_of_node (up.parent.part.node == 0) k.entry.body k.style)
            (no_chars k.entry.body (up.parent.part.node == 0) k.style body) (no_anon k.entry.body (up.parent.part.node == 0) k.style) (no_line k.entry.body (up.parent.part.node == 0) k.style);
      }

  above_none : (at : ℕ) → parent_of nodes at ≡ None → ancestors nodes at ≡ []
  above_none at e = ap (upwards (length nodes) nodes) e ∙ by_length (length nodes)
    where
      by_length : (n : ℕ) → upwards n nodes None ≡ []
      by_length zero = refl
      by_length (suc n) = refl

  one_up : (x : Item) (m at : ℕ) → Contains items x → Contains (ancestors nodes (node_of x)) m → boxes_before items (node_of x) ≤ at
      → ((y : Item) → Contains items y → node_of y < node_of x → Contains (ancestors nodes (node_of y)) m → boxes_before items (node_of y) ≤ at → HasBox (page_boxes nodes styles) at m) → HasBox (page_boxes nodes styles) at m
  one_up x m at i j b again = by_parent (parent_of nodes (node_of x)) refl
    where
      by_sort : (q : ℕ) → parent_of nodes (node_of x) ≡ Some q → (q ≡ m) ⊎ Contains (ancestors nodes q) m → HasBox (page_boxes nodes styles) at m
      by_sort q e (inl same) = subst (HasBox (page_boxes nodes styles) at) same (up_box x q at i (sym (parent_of_item x i) ∙ e) b)
      by_sort q e (inr up_in) =
          let arranged = page_arranged nodes styles page in
          let up = arranged.parents x q i (sym (parent_of_item x i) ∙ e) in
          let before : node_of up.parent < node_of x = let l = up.before in let s = up.node in omega (arith, l, s) in
          let ordered = order items arranged up.parent x up.inside i before in
          again up.parent up.inside before (subst (λ k. Contains (ancestors nodes k) m) (sym up.node) up_in) (omega (arith, ordered, b))

      by_parent : (o : Option ℕ) → parent_of nodes (node_of x) ≡ o → HasBox (page_boxes nodes styles) at m
      by_parent None e = no_member (subst (λ l. Contains l m) (above_none (node_of x) e) j)
      by_parent (Some q) e =
          let known = item_known nodes styles page x i in
          let here = slice_get_within nodes (node_of x) known.entry known.node_is in
          by_sort q e (first_or_later q (ancestors nodes q) m (subst (λ l. Contains l m) (ancestors_are nodes page (node_of x) q here e) j))

  above_box : (k : ℕ) (x : Item) (m at : ℕ) → Contains items x → node_of x ≤ k → Contains (ancestors nodes (node_of x)) m → boxes_before items (node_of x) ≤ at → HasBox (page_boxes nodes styles) at m
  above_box zero x m at i l j b = one_up x m at i j b (λ y a lower c d. absurd (omega (arith, l, lower)))
  above_box (suc k) x m at i l j b = one_up x m at i j b (λ y a lower c d. above_box k y m at a (omega (arith, l, lower)) c d)

  -- ---- each box

  above : (at q : ℕ) (b : BoxNode) → slice_get (page_boxes nodes styles) at ≡ Some b → parent_in (tree_parents nodes) b.node ≡ Some q → HasBox (page_boxes nodes styles) at q
  above at q b e p = by_box (page_box_is nodes styles page at b e)
    where
      by_box : IsBoxOf items at b → HasBox (page_boxes nodes styles) at q
      by_box (IsBoxOf.own x i place s) =
          let node : b.node ≡ node_of x = ap (λ (c : BoxNode). c.node) s in
          let from = own_place_from items (page_arranged nodes styles page) x i in
          up_box x q at i (sym (parent_of_item x i) ∙ (ap (parent_of nodes) (sym node) ∙ (sym (parent_is_of nodes b.node) ∙ p))) (omega (arith, from, place))
      by_box (IsBoxOf.anonymous x run i r t place s) =
          let arranged = page_arranged nodes styles page in
          let outer = run_parent (page_parts nodes styles) x run i r in
          let node : b.node ≡ outer.0 = ap (λ (c : BoxNode). c.node) s ∙ ap (λ (o : Option ℕ). unwrap_or o 0) outer.1 in
          let up = arranged.parents x outer.0 i outer.1 in
          let before : node_of up.parent < node_of x = let l = up.before in let m = up.node in omega (arith, l, m) in
          let ordered = order items arranged up.parent x up.inside i before in
          up_box up.parent q at up.inside (sym (parent_of_item up.parent up.inside) ∙ (ap (parent_of nodes) (up.node ∙ sym node) ∙ (sym (parent_is_of nodes b.node) ∙ p))) (omega (arith, ordered, place))

  -- the style that was given for a node of the tree
  given_names : (at : ℕ) (n : Node) (s : Style) → slice_get nodes at ≡ Some n → slice_get (tree_styles nodes styles) at ≡ Some s → (t : Style) × (slice_get styles at ≡ Some t) × (named_nodes s ≡ named_nodes t)
  given_names at n s e f = by_style (slice_get styles at) refl (sym (tree_style_at nodes styles at n e) ∙ f)
    where
      by_style : (o : Option Style) → slice_get styles at ≡ o → option_map (tree_style_of (viewport_clip nodes styles)) (option_map (λ (s : Style). ((at, n), s)) o) ≡ Some s → (t : Style) × (slice_get styles at ≡ Some t) × (named_nodes s ≡ named_nodes t)
      by_style None g h = absurd (cc)
      by_style (Some t) g h = let same : tree_style_of (viewport_clip nodes styles) ((at, n), t) ≡ s = cc in (t, g, ap named_nodes (sym same))

  named : (at m : ℕ) (b : BoxNode) (s : Style) → slice_get (page_boxes nodes styles) at ≡ Some b → slice_get (tree_styles nodes styles) b.node ≡ Some s → is_of_element b.kind ≡ true → Contains (named_nodes s) m
      → (m ≡ b.node) ⊎ HasBox (page_boxes nodes styles) at m
  named at m b s e f o i = by_box (page_box_is nodes styles page at b e)
    where
      by_test : (x : Item) → Contains items x → b.node ≡ node_of x → boxes_before items (node_of x) ≤ at → (t : Bool) → (m == b.node) ≡ t → (t || list_any (λ a. a == m) (ancestors nodes b.node)) ≡ true → (m ≡ b.node) ⊎ HasBox (page_boxes nodes styles) at m
      by_test x j node l true g h = inl (eqb-true m b.node g)
      by_test x j node l false g h =
          let found = any_in (λ a. a == m) (ancestors nodes b.node) h in
          let same = eqb-true found.0 m found.2 in
          inr (above_box (node_of x) x m at j (omega arith) (subst (λ k. Contains (ancestors nodes k) m) node (subst (λ k. Contains (ancestors nodes b.node) k) same found.1)) l)

      by_box : IsBoxOf items at b → (m ≡ b.node) ⊎ HasBox (page_boxes nodes styles) at m
      by_box (IsBoxOf.anonymous x run j r t place k) = let kind : is_of_element of_kind.Anon ≡ true = ap (λ (c : BoxNode). is_of_element c.kind) (sym k) ∙ o in absurd (cc)
      by_box (IsBoxOf.own x j place k) =
          let node : b.node ≡ node_of x = ap (λ (c : BoxNode). c.node) k in
          let known = item_known nodes styles page x j in
          let given = given_names b.node known.entry s (ap (slice_get nodes) node ∙ known.node_is) f in
          let all = styled.names_above b.node given.0 given.1 in
          let here = all_in (is_at_or_above nodes b.node) (named_nodes given.0) m all (subst (λ l. Contains l m) given.2 i) in
          let from = own_place_from items (page_arranged nodes styles page) x j in
          by_test x j node (omega (arith, from, place)) (m == b.node) refl here

  texts : (at : ℕ) (b : BoxNode) (s : Style) → slice_get (page_boxes nodes styles) at ≡ Some b → slice_get (tree_styles nodes styles) b.node ≡ Some s
      → (chars b.chars ≡ []) ⊎ ((q : ℕ) × (parent_in (tree_parents nodes) b.node ≡ Some q) × (s.size ≡ of_size.Same))
  texts at b s e f = by_box (page_box_is nodes styles page at b e)
    where
      by_kind : (x : Item) → Contains items x → b ≡ own_box items x → (t : Bool) → is_chars b.kind ≡ t → (chars b.chars ≡ []) ⊎ ((q : ℕ) × (parent_in (tree_parents nodes) b.node ≡ Some q) × (s.size ≡ of_size.Same))
      by_kind x i k true c =
          let known = item_known nodes styles page x i in
          let node : b.node ≡ node_of x = ap (λ (c : BoxNode). c.node) k in
          let same = same_of s.size (tree.texts_same_size at b s e c f) in
          let kind : is_chars (kind_of_node (x.part.node == 0) known.entry.body known.style) ≡ true = sym (ap (λ (p : Part). is_chars p.kind) known.is) ∙ (ap (λ (c : BoxNode). is_chars c.kind) (sym k) ∙ c) in
          let up = text_parent nodes (tree_styles nodes styles) page (node_of x) known.entry known.style known.node_is kind in
          inr (up.0, parent_is_of nodes b.node ∙ (ap (parent_of nodes) node ∙ up.1), same)
      by_kind x i k false c =
          let text : x.part.text ≡ [] = text_none x.part (item_part (page_parts nodes styles) x i) (ap (λ (c : BoxNode). is_chars c.kind) (sym k) ∙ c) in
          inl (ap (λ (c : BoxNode). chars c.chars) k ∙ (ap (λ cs. chars (encode_utf8_all cs)) text ∙ chars-nil))
        where
          text_none : (p : Part) → Contains (page_parts nodes styles) p → is_chars p.kind ≡ false → p.text ≡ []
          text_none p i c =
              let from = in_walk (replicate (length nodes) false) (shown_parts nodes (tree_styles nodes styles)) p (subst (λ l. Contains l p) (sym (spaces_are nodes (tree_styles nodes styles) page)) i) in
              by_sort from.0 from.2.0 from.2.1 (shown_fits nodes (tree_styles nodes styles) page from.0 from.1).text
            where
              by_sort : (q : Part) (keeps : Bool) → p ≡ squeezed_part keeps q → HasText q → p.text ≡ []
              by_sort q keeps g (inl h) =
                  let kind : false ≡ true = sym c ∙ (ap (λ (r : Part). is_chars r.kind) g ∙ ap is_chars h.1) in
                  absurd (cc)
              by_sort q keeps g (inr h) = ap (λ (r : Part). r.text) g ∙ ap (squeezed keeps) h

      by_box : IsBoxOf items at b → (chars b.chars ≡ []) ⊎ ((q : ℕ) × (parent_in (tree_parents nodes) b.node ≡ Some q) × (s.size ≡ of_size.Same))
      by_box (IsBoxOf.anonymous x run j r t place k) = inl (ap (λ (c : BoxNode). chars c.chars) k ∙ chars-nil)
      by_box (IsBoxOf.own x j place k) = by_kind x j k (is_chars b.kind) refl

  pub page_known : AreKnown (tree_styles nodes styles) (tree_parents nodes) fonts (page_boxes nodes styles)
  page_known = record {
    before = tree.parents_before;
    styled = λ at b e. slice_some (tree_styles nodes styles) b.node (tree.each at b e).node;
    fonts_there = λ node s e. slice_some fonts s.font (tree.fonts_there node s e);
    above = above;
    named = named;
    texts = texts;
    around = λ at p b e f.
        let up = (page_nested nodes styles page).inside at p b e f in
        let low = rises_from (suc p) up.0.kids at ((page_nested nodes styles page).rise p up.0 up.1) up.2 in
        omega (arith, low);
  }
