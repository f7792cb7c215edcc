-- Which nodes have boxes, and which boxes hold none.
use Rattle.std.proofs.Common.{◌≡◌, ℕ, zero, suc, ◌<◌, Bool, true, false, not, ◌==◌, ◌||◌, List, [], ◌∷◌, flat_map, length, Contains, Option, Some, None, slice_get, refl, sym, ◌∙◌, ap, subst, arith, if◌then◌else◌}
use Rattle.std.specs.Prelude.{unwrap_or}
use Rattle.std.specs.List.{list_all}
use Rattle.std.specs.Option.{option_map_or}
use Rattle.std.proofs.lemmas.Option.{slice_get_within}
use Rattle.std.proofs.lemmas.Bool.{not-true, or_left, and_parts}
use Rattle.viz_base.specs.Pages.{IsPage, is_element, is_break, is_replaced}
use Rattle.viz_base.specs.Trees.{is_leaf}
use Rattle.viz_base.specs.declared.nodes.Body.{Body}
use Rattle.viz_base.specs.declared.nodes.Body.TheVariants as of_body
use Rattle.viz_base.specs.declared.nodes.Node.{Node}
use Rattle.viz_base.specs.declared.styles.Style.{Style}
use Rattle.viz_base.specs.declared.styles.Display.{Display}
use Rattle.viz_base.specs.declared.styles.Display.TheVariants as of_display
use Rattle.viz_base.specs.declared.trees.BoxNode.{BoxNode}
use Rattle.viz_base.specs.declared.trees.Kind.{Kind}
use Rattle.viz_base.specs.declared.trees.Kind.TheVariants as of_kind
use Rattle.viz_base.proofs.ListLemmas.{slice_some}
use Rattle.layout_semantics.specs.Elements.{is_closed, is_hidden, is_shown, node_passes, parent_of, ancestors, upwards}
use Rattle.layout_semantics.specs.Parts.{Part, Level, kind_of_node, level_kind, level_of, inline_kind}
use Rattle.layout_semantics.specs.WhiteSpace.{is_in}
use Rattle.layout_semantics.specs.BoxTrees.{Item, kid_place, items_in, items_of, page_parts, page_boxes, tree_styles}
use Rattle.layout_laws.proofs.Members.{from_filter, no_member, first_member, by_member, all_in}
use Rattle.layout_laws.proofs.Places.{node_of}
use Rattle.layout_laws.proofs.Nesting.{IsBoxOf}
use Rattle.layout_laws.proofs.Above.{not_or, parent_is, parent_shown}
use Rattle.layout_laws.proofs.Runs.{is_in_some, run_parent}
use Rattle.layout_laws.proofs.PageParts.{part_parent}
use Rattle.layout_laws.proofs.BoxFacts.{item_known, page_box_is, hidden_alike}

-- ---- lists

empty_list : {A : Type 0} (xs : List A) → ((x : A) → Contains xs x → ⊥) → xs ≡ []
empty_list [] none = refl
empty_list (x ∷ xs) none = absurd (none x (first_member _ refl))

-- ---- leaves

inline_leaf : (body : Body) (d : Display) → is_element body ≡ true → is_leaf (inline_kind body d) ≡ true → is_break body ≡ true
inline_leaf (of_body.Chars text) d e l = absurd (cc)
inline_leaf (of_body.Element element) d e l = by_display d l
  where
    by_break : (t : Bool) (k : Kind) → is_leaf k ≡ false → is_leaf (if t then of_kind.Break else k) ≡ true → t ≡ true
    by_break true k n l = refl
    by_break false k n l = absurd (cc)

    by_display : (d : Display) → is_leaf (inline_kind (of_body.Element element) d) ≡ true → is_break (of_body.Element element) ≡ true
    by_display of_display.Hidden l = by_break (is_break (of_body.Element element)) of_kind.Inline refl l
    by_display of_display.Block l = by_break (is_break (of_body.Element element)) of_kind.Inline refl l
    by_display of_display.Inline l = by_break (is_break (of_body.Element element)) of_kind.Inline refl l
    by_display of_display.InlineBlock l = by_break (is_break (of_body.Element element)) of_kind.Atomic refl l

-- an element whose box is a leaf has no content
leaf_is_closed : (body : Body) (is_root : Bool) (s : Style) → is_element body ≡ true → is_leaf (kind_of_node is_root body s) ≡ true → is_closed body ≡ true
leaf_is_closed body is_root s e l = by_replaced (is_replaced body) refl (by_level (level_of is_root body s)) l
  where
    by_level : (v : Level) → is_leaf (level_kind v body s.display) ≡ true → is_closed body ≡ true
    by_level Level.block l = absurd (cc)
    by_level Level.floated l = absurd (cc)
    by_level Level.inline l = or_left (is_break body) (is_replaced body) (inline_leaf body s.display e l)

    by_replaced : (r : Bool) → is_replaced body ≡ r → (is_leaf (level_kind (level_of is_root body s) body s.display) ≡ true → is_closed body ≡ true)
        → is_leaf (if r then of_kind.Replaced else level_kind (level_of is_root body s) body s.display) ≡ true → is_closed body ≡ true
    by_replaced true r again l = or_right (is_break body) (is_replaced body) r
      where
        or_right : (a b : Bool) → b ≡ true → (a || b) ≡ true
        or_right true b e = refl
        or_right false b e = e
    by_replaced false r again l = again l

-- ---- what is above a node

pub upwards_within : (more : ℕ) (nodes : List Node) (page : IsPage nodes) (o : Option ℕ) (above : ℕ) → ((q : ℕ) → o ≡ Some q → q < length nodes) → Contains (upwards more nodes o) above → above < length nodes
upwards_within zero nodes page o above f i = no_member i
upwards_within (suc more) nodes page None above f i = no_member i
upwards_within (suc more) nodes page (Some q) above f i =
    by_member (λ a. a < length nodes) q (upwards more nodes (parent_of nodes q)) above i
    (f q refl)
    (λ j. upwards_within more nodes page (parent_of nodes q) above (λ r e. let below = (parent_is nodes page q r e).0 in let here = f q refl in omega (arith, below, here)) j)

pub ancestor_within : (nodes : List Node) (page : IsPage nodes) (at above : ℕ) → at < length nodes → Contains (ancestors nodes at) above → above < length nodes
ancestor_within nodes page at above l h =
    upwards_within (length nodes) nodes page (parent_of nodes at) above (λ q e. let below = (parent_is nodes page at q e).0 in omega (arith, below, l)) h

-- ---- boxes

module _ (nodes : List Node) (styles : List Style) (page : IsPage nodes) where
  -- a box's node is shown
  pub box_shown : (at : ℕ) (b : BoxNode) → slice_get (page_boxes nodes styles) at ≡ Some b → (is_shown nodes (tree_styles nodes styles) b.node ≡ true) × (b.node < length nodes)
  box_shown at b e = by_box (page_box_is nodes styles page at b e)
    where
      by_box : IsBoxOf (items_of (page_parts nodes styles)) at b → (is_shown nodes (tree_styles nodes styles) b.node ≡ true) × (b.node < length nodes)
      by_box (IsBoxOf.own x i p s) =
          let k = item_known nodes styles page x i in
          subst (λ n. (is_shown nodes (tree_styles nodes styles) n ≡ true) × (n < length nodes)) (sym (ap (λ (c : BoxNode). c.node) s)) (k.shown, slice_get_within nodes (node_of x) k.entry k.node_is)
      by_box (IsBoxOf.anonymous x run i r t p s) =
          let k = item_known nodes styles page x i in
          let parent = run_parent (page_parts nodes styles) x run i r in
          let up = part_parent nodes (tree_styles nodes styles) page x.part k ∙ parent.1 in
          let here = slice_get_within nodes (node_of x) k.entry k.node_is in
          let shown = parent_shown nodes page (tree_styles nodes styles) (node_of x) parent.0 here up k.shown in
          let above = parent_is nodes page (node_of x) parent.0 up in
          let node : b.node ≡ parent.0 = ap (λ (c : BoxNode). c.node) s ∙ ap (λ (o : Option ℕ). unwrap_or o 0) parent.1 in
          subst (λ n. (is_shown nodes (tree_styles nodes styles) n ≡ true) × (n < length nodes)) (sym node) (shown.0, omega (arith, above.0, here))

  hidden_in : (at : ℕ) → at < length nodes → is_hidden (tree_styles nodes styles) at ≡ false → is_hidden styles at ≡ false
  hidden_in at l e = let n = slice_some nodes at l in sym (hidden_alike nodes styles at n.0 n.1) ∙ e

  pub node_not_hidden : (at : ℕ) (b : BoxNode) → slice_get (page_boxes nodes styles) at ≡ Some b → is_hidden styles b.node ≡ false
  node_not_hidden at b e =
      let shown = box_shown at b e in
      let parts = and_parts (not (is_hidden (tree_styles nodes styles) b.node)) (list_all (λ above. not (is_hidden (tree_styles nodes styles) above || node_passes is_closed nodes above)) (ancestors nodes b.node)) shown.0 in
      hidden_in b.node shown.1 (not-true (is_hidden (tree_styles nodes styles) b.node) parts.0)

  above_open : (at : ℕ) (b : BoxNode) (above : ℕ) → slice_get (page_boxes nodes styles) at ≡ Some b → Contains (ancestors nodes b.node) above → (is_hidden (tree_styles nodes styles) above ≡ false) × (node_passes is_closed nodes above ≡ false)
  above_open at b above e h =
      let shown = box_shown at b e in
      let parts = and_parts (not (is_hidden (tree_styles nodes styles) b.node)) (list_all (λ above. not (is_hidden (tree_styles nodes styles) above || node_passes is_closed nodes above)) (ancestors nodes b.node)) shown.0 in
      not_or (is_hidden (tree_styles nodes styles) above) (node_passes is_closed nodes above)
      (all_in (λ above. not (is_hidden (tree_styles nodes styles) above || node_passes is_closed nodes above)) (ancestors nodes b.node) above parts.1 h)

  pub above_not_closed : (at : ℕ) (b : BoxNode) (above : ℕ) → slice_get (page_boxes nodes styles) at ≡ Some b → Contains (ancestors nodes b.node) above → node_passes is_closed nodes above ≡ false
  above_not_closed at b above e h = (above_open at b above e h).1

  -- what is above a node of a page is a node of it
  pub above_not_hidden : (at : ℕ) (b : BoxNode) (above : ℕ) → slice_get (page_boxes nodes styles) at ≡ Some b → Contains (ancestors nodes b.node) above → is_hidden styles above ≡ false
  above_not_hidden at b above e h =
      let shown = box_shown at b e in
      hidden_in above (ancestor_within nodes page b.node above shown.1 h) (above_open at b above e h).0

  -- no part is in a leaf
  none_in : (x : Item) → Contains (items_of (page_parts nodes styles)) x → is_leaf x.part.kind ≡ true → (y : Item) → Contains (items_in (items_of (page_parts nodes styles)) (node_of x)) y → ⊥
  none_in x i l y j =
      let k = item_known nodes styles page x i in
      let from = from_filter (λ (item : Item). is_in (node_of x) item.part.parent) (items_of (page_parts nodes styles)) y j in
      let m = item_known nodes styles page y from.0 in
      let up = part_parent nodes (tree_styles nodes styles) page y.part m ∙ is_in_some (node_of x) y.part.parent from.1 in
      let here = slice_get_within nodes (node_of y) m.entry m.node_is in
      let shown = parent_shown nodes page (tree_styles nodes styles) (node_of y) (node_of x) here up m.shown in
      let above = parent_is nodes page (node_of y) (node_of x) up in
      let element : is_element k.entry.body ≡ true = ap (λ (o : Option Node). option_map_or (λ (n : Node). is_element n.body) o false) (sym k.node_is) ∙ above.1 in
      let not_closed : is_closed k.entry.body ≡ false = ap (λ (o : Option Node). option_map_or (λ (n : Node). is_closed n.body) o false) (sym k.node_is) ∙ shown.1 in
      let leaf : is_leaf (kind_of_node (x.part.node == 0) k.entry.body k.style) ≡ true = ap (λ (p : Part). is_leaf p.kind) (sym k.is) ∙ l in
      let closed = leaf_is_closed k.entry.body (x.part.node == 0) k.style element leaf in
      cc

  pub leaf_has_none : (at : ℕ) (b : BoxNode) → slice_get (page_boxes nodes styles) at ≡ Some b → is_leaf b.kind ≡ true → b.kids ≡ []
  leaf_has_none at b e l = by_box (page_box_is nodes styles page at b e) l
    where
      by_box : IsBoxOf (items_of (page_parts nodes styles)) at b → is_leaf b.kind ≡ true → b.kids ≡ []
      by_box (IsBoxOf.anonymous x run i r t p s) l = absurd (let k : is_leaf of_kind.Anon ≡ is_leaf b.kind = ap (λ (c : BoxNode). is_leaf c.kind) (sym s) in cc)
      by_box (IsBoxOf.own x i p s) l =
          let leaf : is_leaf x.part.kind ≡ true = ap (λ (c : BoxNode). is_leaf c.kind) (sym s) ∙ l in
          let none = empty_list (items_in (items_of (page_parts nodes styles)) (node_of x)) (none_in x i leaf) in
          ap (λ (c : BoxNode). c.kids) s ∙ ap (flat_map (kid_place (items_of (page_parts nodes styles)))) none
