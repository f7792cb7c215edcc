-- Each text and each anonymous box that is built of a page is in an element that has a box.
use Rattle.std.proofs.Common.{◌≡◌, ℕ, Bool, true, false, ◌==◌, ◌&&◌, List, Option, Some, None, option_map, option_and_then, slice_get, IsTrue, refl, sym, ap, ◌∙◌, subst, eq-eqb, eqb-true, Contains}
use Rattle.std.specs.Prelude.{unwrap_or}
use Rattle.std.specs.Option.{option_map_or}
use Rattle.std.proofs.lemmas.Option.{slice_get-map}
use Rattle.viz_base.specs.Pages.{IsPage, is_element, is_element_at, parent_fits}
use Rattle.viz_base.specs.Reaches.{is_of_element}
use Rattle.viz_base.specs.Trees.{has_element, is_anon, is_chars, is_element_box}
use Rattle.viz_base.specs.declared.nodes.Body.{Body}
use Rattle.viz_base.specs.declared.nodes.Body.TheVariants as of_body
use Rattle.viz_base.specs.declared.nodes.Node.{Node}
use Rattle.viz_base.specs.declared.styles.Style.{Style}
use Rattle.viz_base.specs.declared.trees.BoxNode.{BoxNode}
use Rattle.viz_base.specs.declared.trees.Kind.TheVariants as of_kind
use Rattle.layout_semantics.specs.Parts.{Part, kind_of_node}
use Rattle.layout_semantics.specs.BoxTrees.{Item, items_of, own_box, own_place, run_around, page_parts, page_boxes, tree_styles, tree_parents}
use Rattle.layout_laws.proofs.Members.{any_from, to_map}
use Rattle.layout_laws.proofs.Kids.{own_box_at}
use Rattle.layout_laws.proofs.Nesting.{IsBoxOf}
use Rattle.layout_laws.proofs.Above.{parent_is}
use Rattle.layout_laws.proofs.Runs.{run_parent}
use Rattle.layout_laws.proofs.PageParts.{IsPagePart, element_kind, no_chars, from_page, part_parent, parts_of_page}
use Rattle.layout_laws.proofs.BoxLaws.{page_arranged}
use Rattle.layout_laws.proofs.BoxFacts.{item_known, item_part, no_anon, page_box_is}
use Rattle.layout_laws.proofs.TreeFacts.{slice_in}

kind-of-element : (body : Body) (is_root : Bool) (s : Style) → is_element body ≡ true → is_of_element (kind_of_node is_root body s) ≡ true
kind-of-element (of_body.Element element) is_root s e = element_kind is_of_element true element is_root s refl refl refl refl refl refl
kind-of-element (of_body.Chars text) is_root s e = absurd (cc)

module _ (nodes : List Node) (styles : List Style) (page : IsPage nodes) where
  abbrev items : List Item
  items = items_of (page_parts nodes styles)

  abbrev item : Part → Item
  item p = record { part = p; run = run_around (page_parts nodes styles) p }

  -- an element that has a part has a box
  part-boxed : (p : Part) (q : ℕ) → Contains (page_parts nodes styles) p → p.node ≡ q → is_element_at nodes q ≡ true → has_element (page_boxes nodes styles) q ≡ true
  part-boxed p q i same element =
      let there = own_box_at items (page_arranged nodes styles page) (item p) (to_map item (page_parts nodes styles) p i) in
      let k = from_page nodes (tree_styles nodes styles) p i in
      let body : is_element k.entry.body ≡ true = sym (ap (λ (o : Option Node). option_map_or (λ (n : Node). is_element n.body) o false) k.node_is) ∙ (ap (is_element_at nodes) same ∙ element) in
      let kind : is_of_element p.kind ≡ true = ap (λ (r : Part). is_of_element r.kind) k.is ∙ kind-of-element k.entry.body (p.node == 0) k.style body in
      any_from (λ (b : BoxNode). is_of_element b.kind && (b.node == q)) (page_boxes nodes styles) (own_box items (item p))
      (slice_in (page_boxes nodes styles) (own_place items p.node) (own_box items (item p)) there)
      (ap (λ (b : Bool). b && (p.node == q)) kind ∙ eq-eqb p.node q same)

  -- so has the element around a part
  parent-boxed : (x : Item) (q : ℕ) → Contains items x → x.part.parent ≡ Some q → has_element (page_boxes nodes styles) q ≡ true
  parent-boxed x q i e =
      let up = (parts_of_page nodes (tree_styles nodes styles) page).parents x.part q (item_part (page_parts nodes styles) x i) e in
      let above = parent_is nodes page x.part.node q (part_parent nodes (tree_styles nodes styles) page x.part (item_known nodes styles page x i) ∙ e) in
      part-boxed up.parent q up.inside up.node above.1

  pub anonymous-in : (at : ℕ) (b : BoxNode) → slice_get (page_boxes nodes styles) at ≡ Some b → b.kind ≡ of_kind.Anon → has_element (page_boxes nodes styles) b.node ≡ true
  anonymous-in at b e is = by_box (page_box_is nodes styles page at b e)
    where
      by_box : IsBoxOf items at b → has_element (page_boxes nodes styles) b.node ≡ true
      by_box (IsBoxOf.own x i p s) =
          let k = item_known nodes styles page x i in
          let own : is_anon b.kind ≡ false = ap (λ (c : BoxNode). is_anon c.kind) s ∙ (ap (λ (r : Part). is_anon r.kind) k.is ∙ no_anon k.entry.body (x.part.node == 0) k.style) in
          let anon = ap is_anon is in
          absurd (cc)
      by_box (IsBoxOf.anonymous x run i r t p s) =
          let up = run_parent (page_parts nodes styles) x run i r in
          let node : b.node ≡ up.0 = ap (λ (c : BoxNode). c.node) s ∙ ap (λ (o : Option ℕ). unwrap_or o 0) up.1 in
          subst (λ n. has_element (page_boxes nodes styles) n ≡ true) (sym node) (parent-boxed x up.0 i up.1)

  -- a node that is no element has a parent
  parent-there : (at : ℕ) (n : Node) → slice_get nodes at ≡ Some n → is_element n.body ≡ false → (q : ℕ) × (n.parent ≡ Some q)
  parent-there at n e text = by_parent n.parent refl (page.parents at n e)
    where
      by_parent : (o : Option ℕ) → n.parent ≡ o → IsTrue (parent_fits nodes at o) → (q : ℕ) × (n.parent ≡ Some q)
      by_parent (Some q) f t = (q, f)
      by_parent None f t =
          let first : at ≡ 0 = eqb-true at 0 t in
          let root = ap (λ (k : ℕ). option_map_or (λ (m : Node). is_element m.body) (slice_get nodes k) false) first in
          let own = ap (λ (o : Option Node). option_map_or (λ (m : Node). is_element m.body) o false) e in
          let element = page.root in
          absurd (cc)

  pub text-in : (at : ℕ) (b : BoxNode) → slice_get (page_boxes nodes styles) at ≡ Some b → b.kind ≡ of_kind.Chars
      → is_element_box (page_boxes nodes styles) (slice_get (tree_parents nodes) b.node) ≡ true
  text-in at b e is = by_box (page_box_is nodes styles page at b e)
    where
      by_box : IsBoxOf items at b → is_element_box (page_boxes nodes styles) (slice_get (tree_parents nodes) b.node) ≡ true
      by_box (IsBoxOf.anonymous x run i r t p s) = absurd (let kind : of_kind.Chars ≡ of_kind.Anon = sym is ∙ ap (λ (c : BoxNode). c.kind) s in let chars = ap is_chars kind in cc)
      by_box (IsBoxOf.own x i p s) = by_body (is_element k.entry.body) refl
        where
          k : IsPagePart nodes (tree_styles nodes styles) x.part
          k = item_known nodes styles page x i

          chars : is_chars (kind_of_node (x.part.node == 0) k.entry.body k.style) ≡ true
          chars = sym (ap (λ (r : Part). is_chars r.kind) k.is) ∙ (sym (ap (λ (c : BoxNode). is_chars c.kind) s) ∙ ap is_chars is)

          by_body : (t : Bool) → is_element k.entry.body ≡ t → is_element_box (page_boxes nodes styles) (slice_get (tree_parents nodes) b.node) ≡ true
          by_body true f = absurd (let no = no_chars k.entry.body (x.part.node == 0) k.style f in let yes = chars in cc)
          by_body false f =
              let up = parent-there x.part.node k.entry k.node_is f in
              let node = ap (λ (c : BoxNode). c.node) s in
              let listed = slice_get-map (λ (n : Node). n.parent) nodes x.part.node ∙ (ap (option_map (λ (n : Node). n.parent)) k.node_is ∙ ap Some up.1) in
              let part : x.part.parent ≡ Some up.0 = sym (part_parent nodes (tree_styles nodes styles) page x.part k) ∙ (ap (option_and_then (λ (n : Node). n.parent)) k.node_is ∙ up.1) in
              ap (is_element_box (page_boxes nodes styles)) (ap (slice_get (tree_parents nodes)) node ∙ listed) ∙ parent-boxed x up.0 i part
