-- What each box of a page is, by the part that it comes from.
use Rattle.std.proofs.Common.{◌≡◌, ℕ, zero, suc, ◌+◌, ◌<◌, Bool, true, false, ◌==◌, List, [], ◌∷◌, zip, Option, Some, None, is_some, option_map, slice_get, refl, sym, ◌∙◌, ap, subst, arith, ◌⊎◌, inl, inr, if◌then◌else◌, eq-or-lt_of_le, nat_lt, ltb-true, ltb-false, ap₂, Contains}
use Rattle.std.specs.List.{enumerate_from}
use Rattle.std.specs.Option.{option_map_or}
use Rattle.std.proofs.lemmas.Option.{slice_get-map}
use Rattle.viz_base.specs.Pages.{IsPage, is_break, is_replaced}
use Rattle.viz_base.specs.Trees.{is_anon, is_line, is_replaced as is_replaced_kind}
use Rattle.viz_base.specs.declared.nodes.Body.{Body}
use Rattle.viz_base.specs.declared.nodes.Body.TheVariants as of_body
use Rattle.viz_base.specs.declared.nodes.Node.{Node}
use Rattle.viz_base.specs.declared.styles.Style.{Style}
use Rattle.viz_base.specs.declared.styles.Display.{Display}
use Rattle.viz_base.specs.declared.styles.Display.TheVariants as of_display
use Rattle.viz_base.specs.declared.trees.BoxNode.{BoxNode}
use Rattle.viz_base.specs.declared.trees.Kind.{Kind}
use Rattle.viz_base.specs.declared.trees.Kind.TheVariants as of_kind
use Rattle.layout_semantics.specs.Elements.{is_hidden, is_none_display, intrinsic_size}
use Rattle.layout_semantics.specs.Parts.{Part, Level, kind_of_node, level_kind, level_of, inline_kind}
use Rattle.layout_semantics.specs.BoxTrees.{Item, run_around, own_place, items_of, page_parts, page_boxes, tree_styles, tree_style_of, viewport_clip}
use Rattle.layout_laws.proofs.Members.{from_map}
use Rattle.layout_laws.proofs.Places.{node_of}
use Rattle.layout_laws.proofs.Kids.{IsArranged, order, own_place_from, own_place_within}
use Rattle.layout_laws.proofs.Nesting.{IsBoxOf, box_is}
use Rattle.layout_laws.proofs.PageParts.{IsPagePart, from_page, element_kind}
use Rattle.layout_laws.proofs.BoxLaws.{page_arranged}

-- ---- kinds

-- a test of kinds that those of texts and elements answer alike
every_kind : (test : Kind → Bool) (b : Bool) (body : Body) (is_root : Bool) (s : Style)
    → test of_kind.Chars ≡ b → test of_kind.Replaced ≡ b → test of_kind.Block ≡ b → test of_kind.Float ≡ b → test of_kind.Break ≡ b → test of_kind.Atomic ≡ b → test of_kind.Inline ≡ b
    → test (kind_of_node is_root body s) ≡ b
every_kind test b (of_body.Element element) is_root s chars replaced block float break atomic inline = element_kind test b element is_root s replaced block float break atomic inline
every_kind test b (of_body.Chars text) true s chars replaced block float break atomic inline = block
every_kind test b (of_body.Chars text) false s chars replaced block float break atomic inline = chars

pub no_anon : (body : Body) (is_root : Bool) (s : Style) → is_anon (kind_of_node is_root body s) ≡ false
no_anon body is_root s = every_kind is_anon false body is_root s refl refl refl refl refl refl refl

pub no_line : (body : Body) (is_root : Bool) (s : Style) → is_line (kind_of_node is_root body s) ≡ false
no_line body is_root s = every_kind is_line false body is_root s refl refl refl refl refl refl refl

level_not_replaced : (l : Level) (body : Body) (d : Display) → is_replaced_kind (level_kind l body d) ≡ false
level_not_replaced Level.block body d = refl
level_not_replaced Level.floated body d = refl
level_not_replaced Level.inline (of_body.Chars text) d = refl
level_not_replaced Level.inline (of_body.Element element) d = by_display d
  where
    by_break : (t : Bool) (k : Kind) → is_replaced_kind k ≡ false → is_replaced_kind (if t then of_kind.Break else k) ≡ false
    by_break true k e = refl
    by_break false k e = e

    by_display : (d : Display) → is_replaced_kind (inline_kind (of_body.Element element) d) ≡ false
    by_display of_display.Hidden = by_break (is_break (of_body.Element element)) of_kind.Inline refl
    by_display of_display.Block = by_break (is_break (of_body.Element element)) of_kind.Inline refl
    by_display of_display.Inline = by_break (is_break (of_body.Element element)) of_kind.Inline refl
    by_display of_display.InlineBlock = by_break (is_break (of_body.Element element)) of_kind.Atomic refl

pub sized : (body : Body) (is_root : Bool) (s : Style) (size : ℕ × ℕ) → is_some (if is_replaced body then Some size else None) ≡ is_replaced_kind (kind_of_node is_root body s)
sized body is_root s size = by_test (is_replaced body) (level_not_replaced (level_of is_root body s) body s.display)
  where
    by_test : (b : Bool) → is_replaced_kind (level_kind (level_of is_root body s) body s.display) ≡ false
        → is_some (if b then Some size else None) ≡ is_replaced_kind (if b then of_kind.Replaced else level_kind (level_of is_root body s) body s.display)
    by_test true e = refl
    by_test false e = sym e

-- ---- the part of an item

pub item_part : (parts : List Part) (x : Item) → Contains (items_of parts) x → Contains parts x.part
item_part parts x i = let from = from_map (λ p. record { part = p; run = run_around parts p }) parts x i in subst (λ (p : Part). Contains parts p) (ap (λ (y : Item). y.part) from.2) from.1

own_order : (items : List Item) (arranged : IsArranged items) (first second : ℕ) (a b : BoxNode) (x y : Item) → first < second → Contains items x → Contains items y → first ≡ own_place items (node_of x) → second ≡ own_place items (node_of y)
    → a.node ≡ node_of x → b.node ≡ node_of y → a.node < b.node
own_order items arranged first second a b x y l i j p q s u = by_order (nat_lt (node_of x) (node_of y)) refl
  where
    by_order : (t : Bool) → nat_lt (node_of x) (node_of y) ≡ t → a.node < b.node
    by_order true e = let below = ltb-true (node_of x) (node_of y) e in omega (arith, below, s, u)
    by_order false e = by_place (eq-or-lt_of_le (ltb-false (node_of x) (node_of y) e))
      where
        by_place : (node_of y ≡ node_of x) ⊎ (node_of y < node_of x) → a.node < b.node
        by_place (inl same) = absurd (let places = ap (own_place items) same in omega (arith, places, p, q, l))
        by_place (inr below) =
            let o = order items arranged y x j i below in
            let within = own_place_within items arranged y j in
            let from = own_place_from items arranged x i in
            absurd (omega (arith, o, within, from, p, q, l))

-- ---- the styles of the tree

zip_get : (k : ℕ) (ns : List Node) (ss : List Style) (j : ℕ) (n : Node) → slice_get ns j ≡ Some n → slice_get (zip (enumerate_from k ns) ss) j ≡ option_map (λ (s : Style). ((k + j, n), s)) (slice_get ss j)
zip_get k [] ss j n e = absurd (cc)
zip_get k (m ∷ ns) [] j n e = refl
zip_get k (m ∷ ns) (s ∷ ss) zero n e = let same : m ≡ n = cc in let none : k ≡ k + 0 = omega arith in ap₂ (λ (i : ℕ) (z : Node). Some ((i, z), s)) none same
zip_get k (m ∷ ns) (s ∷ ss) (suc j) n e =
    let next : (k + 1) + j ≡ k + suc j = omega arith in
    zip_get (k + 1) ns ss j n e ∙ ap (λ (i : ℕ). option_map (λ (s : Style). ((i, n), s)) (slice_get ss j)) next

pub tree_style_at : (nodes : List Node) (styles : List Style) (at : ℕ) (n : Node) → slice_get nodes at ≡ Some n
    → slice_get (tree_styles nodes styles) at ≡ option_map (tree_style_of (viewport_clip nodes styles)) (option_map (λ (s : Style). ((at, n), s)) (slice_get styles at))
tree_style_at nodes styles at n e =
    let none : 0 + at ≡ at = omega arith in
    slice_get-map (tree_style_of (viewport_clip nodes styles)) (zip (enumerate_from 0 nodes) styles) at
    ∙ (ap (option_map (tree_style_of (viewport_clip nodes styles))) (zip_get 0 nodes styles at n e)
    ∙ ap (λ (i : ℕ). option_map (tree_style_of (viewport_clip nodes styles)) (option_map (λ (s : Style). ((i, n), s)) (slice_get styles at))) none)

pub hidden_alike : (nodes : List Node) (styles : List Style) (at : ℕ) (n : Node) → slice_get nodes at ≡ Some n → is_hidden (tree_styles nodes styles) at ≡ is_hidden styles at
hidden_alike nodes styles at n e = ap (λ (o : Option Style). option_map_or (λ (s : Style). is_none_display s.display) o false) (tree_style_at nodes styles at n e) ∙ by_style (slice_get styles at)
  where
    by_style : (o : Option Style) → option_map_or (λ (s : Style). is_none_display s.display) (option_map (tree_style_of (viewport_clip nodes styles)) (option_map (λ (s : Style). ((at, n), s)) o)) false
        ≡ option_map_or (λ (s : Style). is_none_display s.display) o false
    by_style None = refl
    by_style (Some s) = refl

module _ (nodes : List Node) (styles : List Style) (page : IsPage nodes) where
  pub item_known : (x : Item) → Contains (items_of (page_parts nodes styles)) x → IsPagePart nodes (tree_styles nodes styles) x.part
  item_known x i = from_page nodes (tree_styles nodes styles) x.part (item_part (page_parts nodes styles) x i)

  pub page_box_is : (at : ℕ) (b : BoxNode) → slice_get (page_boxes nodes styles) at ≡ Some b → IsBoxOf (items_of (page_parts nodes styles)) at b
  page_box_is at b e = box_is (items_of (page_parts nodes styles)) (page_arranged nodes styles page) at b e

  own_kind : (x : Item) (k : IsPagePart nodes (tree_styles nodes styles) x.part) → x.part.kind ≡ kind_of_node (x.part.node == 0) k.entry.body k.style
  own_kind x k = ap (λ (p : Part). p.kind) k.is

  -- ---- the order of nodes

  pub nodes_in_order : (first second : ℕ) (a b : BoxNode) → first < second → slice_get (page_boxes nodes styles) first ≡ Some a → slice_get (page_boxes nodes styles) second ≡ Some b
      → is_anon a.kind ≡ false → is_anon b.kind ≡ false → a.node < b.node
  nodes_in_order first second a b l e f g h = by_boxes (page_box_is first a e) (page_box_is second b f)
    where
      by_boxes : IsBoxOf (items_of (page_parts nodes styles)) first a → IsBoxOf (items_of (page_parts nodes styles)) second b → a.node < b.node
      by_boxes (IsBoxOf.anonymous x run i r t p s) second_box = absurd (let k : is_anon of_kind.Anon ≡ is_anon a.kind = ap (λ (c : BoxNode). is_anon c.kind) (sym s) in cc)
      by_boxes (IsBoxOf.own x i p s) (IsBoxOf.anonymous y run j r t q u) = absurd (let k : is_anon of_kind.Anon ≡ is_anon b.kind = ap (λ (c : BoxNode). is_anon c.kind) (sym u) in cc)
      by_boxes (IsBoxOf.own x i p s) (IsBoxOf.own y j q u) = own_order (items_of (page_parts nodes styles)) (page_arranged nodes styles page) first second a b x y l i j p q (ap (λ (c : BoxNode). c.node) s) (ap (λ (c : BoxNode). c.node) u)

  -- ---- sizes

  pub size_where_replaced : (at : ℕ) (b : BoxNode) → slice_get (page_boxes nodes styles) at ≡ Some b → is_some b.size ≡ is_replaced_kind b.kind
  size_where_replaced at b e = by_box (page_box_is at b e)
    where
      by_box : IsBoxOf (items_of (page_parts nodes styles)) at b → is_some b.size ≡ is_replaced_kind b.kind
      by_box (IsBoxOf.anonymous x run i r t p s) = subst (λ (c : BoxNode). is_some c.size ≡ is_replaced_kind c.kind) (sym s) refl
      by_box (IsBoxOf.own x i p s) =
          let k = item_known x i in
          subst (λ (c : BoxNode). is_some c.size ≡ is_replaced_kind c.kind) (sym s)
          (subst (λ (q : Part). is_some q.size ≡ is_replaced_kind q.kind) (sym k.is) (sized k.entry.body (x.part.node == 0) k.style (intrinsic_size k.entry.body)))
