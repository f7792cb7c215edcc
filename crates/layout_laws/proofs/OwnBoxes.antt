-- What a box of a page is, from its node and the node's style.
use Rattle.std.proofs.Common.{◌≡◌, ℕ, ◌<◌, Bool, true, false, ◌==◌, ◌||◌, List, Option, Some, None, option_map, slice_get, is_some, refl, sym, ◌∙◌, ap, subst, arith, if◌then◌else◌, eqb-true, codes}
use Rattle.std.specs.Option.{option_map_or}
use Rattle.std.proofs.lemmas.Bool.Decides.{nat_tests}
use Rattle.std.proofs.lemmas.Slice.Eq.{bytes_eq-Decides}
use Rattle.std.proofs.Math.Bool.{and-false}
use Rattle.viz_base.specs.Pages.{IsPage, is_element, is_break, is_replaced as is_replaced_body}
use Rattle.viz_base.specs.Trees.{floats, is_anon, is_floated, is_replaced}
use Rattle.viz_base.specs.declared.nodes.Body.{Body}
use Rattle.viz_base.specs.declared.nodes.Body.TheVariants as of_body
use Rattle.viz_base.specs.declared.nodes.Node.{Node}
use Rattle.viz_base.specs.declared.styles.Display.{Display}
use Rattle.viz_base.specs.declared.styles.Display.TheVariants as of_display
use Rattle.viz_base.specs.declared.styles.Side.{Side}
use Rattle.viz_base.specs.declared.styles.Style.{Style}
use Rattle.viz_base.specs.declared.trees.BoxNode.{BoxNode}
use Rattle.viz_base.specs.declared.trees.Kind.{Kind}
use Rattle.viz_base.specs.declared.trees.Kind.TheVariants as of_kind
use Rattle.layout_semantics.specs.Parts.{Part, Level, display_level, level_of, inline_kind, kind_of_node, is_context}
use Rattle.layout_semantics.specs.BoxTrees.{items_of, page_boxes, page_parts, tree_styles, tree_style_of, viewport_clip, clips_at, is_block_level, is_floated_level}
use Rattle.layout_laws.specs.Sorts.{IsOwnBox, IsElementBox, IsFloat, IsBlock, IsAtomic, IsInPieces}
use Rattle.layout_laws.proofs.Nesting.{IsBoxOf}
use Rattle.layout_laws.proofs.BoxFacts.{no_anon, sized, item_known, page_box_is, tree_style_at}

-- a box of this level and kind
pub record HasSort (styles : List Style) (b : BoxNode) (t : Style) (is_root : Bool) (body : Body) : Type 0 where
  pub kind : b.kind ≡ kind_of_node is_root body t
  pub level : b.block_level ≡ (is_block_level (level_of is_root body t) || is_floated_level (level_of is_root body t))
  pub context : b.context ≡ is_context is_root (level_of is_root body t) (kind_of_node is_root body t) t
  pub style : slice_get styles b.node ≡ Some t

module _ (styles : List Style) (b : BoxNode) (t : Style) where
  -- ---- kinds

  floated-as : b.kind ≡ of_kind.Float → is_floated styles b ≡ true
  floated-as e = rw e refl

  replaced-floats : slice_get styles b.node ≡ Some t → b.kind ≡ of_kind.Replaced → is_floated styles b ≡ floats t
  replaced-floats s e = rw (e, s) refl

  -- ---- a float

  float-of : (element : _) → is_break (of_body.Element element) ≡ false → floats t ≡ true → HasSort styles b t false (of_body.Element element) → IsFloat styles b
  float-of element e f h = by_replaced (is_replaced_body (of_body.Element element)) refl
    where
      side : (o : Option Side) (l : Level) → is_some o ≡ true → option_map_or (λ side. Level.floated) o l ≡ Level.floated
      side (Some s) l e = refl
      side None l e = absurd (cc)

      level : level_of false (of_body.Element element) t ≡ Level.floated
      level = rw e (side t.float (display_level t.display) f)

      by_replaced : (r : Bool) → is_replaced_body (of_body.Element element) ≡ r → IsFloat styles b
      by_replaced true r =
          let kind : b.kind ≡ of_kind.Replaced = h.kind ∙ rw r refl in
          record { floats = replaced-floats h.style kind ∙ f; block_level = h.level ∙ rw level refl; context = h.context ∙ rw level refl }
      by_replaced false r =
          let kind : b.kind ≡ of_kind.Float = h.kind ∙ rw (r, level) refl in
          record { floats = floated-as kind; block_level = h.level ∙ rw level refl; context = h.context ∙ rw level refl }

  -- ---- an element in flow

  abbrev level_in : Body → Level
  level_in body = level_of false body t

  in-flow : (element : _) → is_break (of_body.Element element) ≡ false → floats t ≡ false → level_in (of_body.Element element) ≡ display_level t.display
  in-flow element e f = rw e (side t.float (display_level t.display) f)
    where
      side : (o : Option Side) (l : Level) → is_some o ≡ false → option_map_or (λ side. Level.floated) o l ≡ l
      side (Some s) l e = absurd (cc)
      side None l e = refl

  block-of : (element : _) → is_break (of_body.Element element) ≡ false → floats t ≡ false → t.display ≡ of_display.Block → HasSort styles b t false (of_body.Element element) → IsBlock styles b t.clips
  block-of element e f d h = by_replaced (is_replaced_body (of_body.Element element)) refl
    where
      level : level_in (of_body.Element element) ≡ Level.block
      level = in-flow element e f ∙ rw d refl

      block : b.block_level ≡ true
      block = h.level ∙ rw level refl

      by_replaced : (r : Bool) → is_replaced_body (of_body.Element element) ≡ r → IsBlock styles b t.clips
      by_replaced true r =
          let kind : b.kind ≡ of_kind.Replaced = h.kind ∙ rw r refl in
          record { floats = replaced-floats h.style kind ∙ f; block_level = block; inline_level = rw (kind, block) refl; context = h.context ∙ rw level refl }
      by_replaced false r =
          let kind : b.kind ≡ of_kind.Block = h.kind ∙ rw (r, level) refl in
          record { floats = rw kind refl; block_level = block; inline_level = rw kind refl; context = h.context ∙ rw level refl }

  inline-block-of : (element : _) → is_break (of_body.Element element) ≡ false → floats t ≡ false → t.display ≡ of_display.InlineBlock → HasSort styles b t false (of_body.Element element) → IsAtomic styles b true
  inline-block-of element e f d h = by_replaced (is_replaced_body (of_body.Element element)) refl
    where
      level : level_in (of_body.Element element) ≡ Level.inline
      level = in-flow element e f ∙ rw d refl

      block : b.block_level ≡ false
      block = h.level ∙ rw level refl

      by_replaced : (r : Bool) → is_replaced_body (of_body.Element element) ≡ r → IsAtomic styles b true
      by_replaced true r =
          let kind : b.kind ≡ of_kind.Replaced = h.kind ∙ rw r refl in
          record { floats = replaced-floats h.style kind ∙ f; block_level = block; inline_level = rw (kind, block) refl; fragmented = rw kind refl; context = h.context ∙ rw (level, r, d) refl }
      by_replaced false r =
          let kind : b.kind ≡ of_kind.Atomic = h.kind ∙ rw (r, level, d, e) refl in
          record { floats = rw kind refl; block_level = block; inline_level = rw kind refl; fragmented = rw kind refl; context = h.context ∙ rw (level, r, d, e) refl }

  inline-of : (element : _) → is_break (of_body.Element element) ≡ false → floats t ≡ false → t.display ≡ of_display.Inline → is_replaced_body (of_body.Element element) ≡ false → HasSort styles b t false (of_body.Element element) → IsInPieces styles b of_kind.Inline
  inline-of element e f d r h =
      let level : level_in (of_body.Element element) ≡ Level.inline = in-flow element e f ∙ rw d refl in
      let kind : b.kind ≡ of_kind.Inline = h.kind ∙ rw (r, level, d, e) refl in
      record { is = kind; floats = rw kind refl; block_level = h.level ∙ rw level refl; context = h.context ∙ rw (level, r, d, e) refl }

  image-of : (element : _) → is_break (of_body.Element element) ≡ false → floats t ≡ false → t.display ≡ of_display.Inline → is_replaced_body (of_body.Element element) ≡ true → HasSort styles b t false (of_body.Element element) → IsAtomic styles b false
  image-of element e f d r h =
      let level : level_in (of_body.Element element) ≡ Level.inline = in-flow element e f ∙ rw d refl in
      let block : b.block_level ≡ false = h.level ∙ rw level refl in
      let kind : b.kind ≡ of_kind.Replaced = h.kind ∙ rw r refl in
      record { floats = replaced-floats h.style kind ∙ f; block_level = block; inline_level = rw (kind, block) refl; fragmented = rw kind refl; context = h.context ∙ rw (level, r, d) refl }

  -- ---- texts, forced line breaks and the root

  text-of : (text : List ℕ) → HasSort styles b t false (of_body.Chars text) → IsInPieces styles b of_kind.Chars
  text-of text h = record { is = h.kind; floats = rw h.kind refl; block_level = h.level; context = h.context }

  break-of : (body : Body) → is_break body ≡ true → is_replaced_body body ≡ false → HasSort styles b t false body → IsInPieces styles b of_kind.Break
  break-of (of_body.Chars text) e r h = absurd (cc)
  break-of (of_body.Element element) e r h = by_display t.display refl
    where
      level : level_in (of_body.Element element) ≡ Level.inline
      level = rw e refl

      pieces : (k : Kind) → k ≡ of_kind.Break → b.kind ≡ k → b.context ≡ is_context false Level.inline k t → IsInPieces styles b of_kind.Break
      pieces k same kind context = record { is = kind ∙ same; floats = rw (kind, same) refl; block_level = h.level ∙ rw level refl; context = context ∙ rw same refl }

      by_display : (d : Display) → t.display ≡ d → IsInPieces styles b of_kind.Break
      by_display of_display.InlineBlock d = pieces (inline_kind (of_body.Element element) t.display) (rw (d, e) refl) (h.kind ∙ rw (r, level) refl) (h.context ∙ rw (r, level) refl)
      by_display of_display.Hidden d = pieces (inline_kind (of_body.Element element) t.display) (rw (d, e) refl) (h.kind ∙ rw (r, level) refl) (h.context ∙ rw (r, level) refl)
      by_display of_display.Block d = pieces (inline_kind (of_body.Element element) t.display) (rw (d, e) refl) (h.kind ∙ rw (r, level) refl) (h.context ∙ rw (r, level) refl)
      by_display of_display.Inline d = pieces (inline_kind (of_body.Element element) t.display) (rw (d, e) refl) (h.kind ∙ rw (r, level) refl) (h.context ∙ rw (r, level) refl)

  root-of : (body : Body) → t.float ≡ None → HasSort styles b t true body → IsBlock styles b true
  root-of body f h = by_replaced (is_replaced_body body) refl
    where
      by_replaced : (r : Bool) → is_replaced_body body ≡ r → IsBlock styles b true
      by_replaced true r =
          let kind : b.kind ≡ of_kind.Replaced = h.kind ∙ rw r refl in
          record { floats = replaced-floats h.style kind ∙ rw f refl; block_level = h.level; inline_level = rw (kind, h.level) refl; context = h.context }
      by_replaced false r =
          let kind : b.kind ≡ of_kind.Block = h.kind ∙ rw r refl in
          record { floats = rw kind refl; block_level = h.level; inline_level = rw kind refl; context = h.context }

-- ---- boxes of a page

module _ (nodes : List Node) (styles : List Style) (page : IsPage nodes) where
  -- the style of a node in the tree
  abbrev in_tree : BoxNode → Node → Style → Style
  in_tree b n s = tree_style_of (viewport_clip nodes styles) ((b.node, n), s)

  tree-style : (b : BoxNode) (n : Node) (s : Style) → IsOwnBox nodes styles b n s → slice_get (tree_styles nodes styles) b.node ≡ Some (in_tree b n s)
  tree-style b n s i = tree_style_at nodes styles b.node n i.node ∙ ap (λ (o : Option Style). option_map (tree_style_of (viewport_clip nodes styles)) (option_map (λ (s : Style). ((b.node, n), s)) o)) i.style

  alike : {A : Type 0} (f : ℕ → Node → Style → A) (i j : ℕ) (m n : Node) (u t : Style) → i ≡ j → m ≡ n → u ≡ t → f i m u ≡ f j n t
  alike f i j m n u t a b c = rw (a, b, c) refl

  some_node : (x y : Node) → Some x ≡ Some y → x ≡ y
  some_node x y e = cc

  some_style : (x y : Style) → Some x ≡ Some y → x ≡ y
  some_style x y e = cc

  sorted : (b : BoxNode) (n : Node) (s : Style) → IsOwnBox nodes styles b n s → HasSort (tree_styles nodes styles) b (in_tree b n s) (b.node == 0) n.body
  sorted b n s i = by_box (page_box_is nodes styles page i.at b i.box)
    where
      by_box : IsBoxOf (items_of (page_parts nodes styles)) i.at b → HasSort (tree_styles nodes styles) b (in_tree b n s) (b.node == 0) n.body
      by_box (IsBoxOf.anonymous x run j r t p e) = absurd (let k : is_anon of_kind.Anon ≡ is_anon b.kind = ap (λ (c : BoxNode). is_anon c.kind) (sym e) in let own = i.own in cc)
      by_box (IsBoxOf.own x j p e) =
          let k = item_known nodes styles page x j in
          let at : x.part.node ≡ b.node = ap (λ (c : BoxNode). c.node) (sym e) in
          let node : k.entry ≡ n = some_node k.entry n (sym k.node_is ∙ (ap (slice_get nodes) at ∙ i.node)) in
          let style : k.style ≡ in_tree b n s = some_style k.style (in_tree b n s) (sym k.style_is ∙ (ap (slice_get (tree_styles nodes styles)) at ∙ tree-style b n s i)) in
          record {
            kind = ap (λ (c : BoxNode). c.kind) e ∙ (ap (λ (q : Part). q.kind) k.is ∙ alike (λ i m u. kind_of_node (i == 0) m.body u) x.part.node b.node k.entry n k.style (in_tree b n s) at node style);
            level = ap (λ (c : BoxNode). c.block_level) e ∙ (ap (λ (q : Part). is_block_level q.level || is_floated_level q.level) k.is ∙ alike (λ i m u. is_block_level (level_of (i == 0) m.body u) || is_floated_level (level_of (i == 0) m.body u)) x.part.node b.node k.entry n k.style (in_tree b n s) at node style);
            context = ap (λ (c : BoxNode). c.context) e ∙ (ap (λ (q : Part). q.context) k.is ∙ alike (λ i m u. is_context (i == 0) (level_of (i == 0) m.body u) (kind_of_node (i == 0) m.body u) u) x.part.node b.node k.entry n k.style (in_tree b n s) at node style);
            style = tree-style b n s i;
          }

  inside : (at : ℕ) → 0 < at → (at == 0) ≡ false
  inside at l = grind (arith, nat_tests)

  -- the box of an element other than the root and `br`
  pub element-sorted : (b : BoxNode) (n : Node) (s : Style) → IsElementBox nodes styles b n s → HasSort (tree_styles nodes styles) b (in_tree b n s) false n.body
  element-sorted b n s i = subst (λ (r : Bool). HasSort (tree_styles nodes styles) b (in_tree b n s) r n.body) (inside b.node i.inside) (sorted b n s i.box)

  own-float : (b : BoxNode) (n : Node) (s : Style) → IsElementBox nodes styles b n s → floats (in_tree b n s) ≡ floats s
  own-float b n s i = rw (i.element, inside b.node i.inside) refl

  own-clip : (b : BoxNode) (n : Node) (s : Style) → IsOwnBox nodes styles b n s → (in_tree b n s).clips ≡ clips_at (tree_styles nodes styles) b.node
  own-clip b n s i = ap (λ (o : Option Style). option_map_or (λ (s : Style). s.clips) o false) (sym (tree-style b n s i))

  by_body : (P : Body → Type 0) (body : Body) → is_element body ≡ true → ((element : _) → P (of_body.Element element)) → P body
  by_body P (of_body.Element element) e f = f element
  by_body P (of_body.Chars text) e f = absurd (cc)

  pub float-law : (b : BoxNode) (n : Node) (s : Style) → IsElementBox nodes styles b n s → floats s ≡ true → IsFloat (tree_styles nodes styles) b
  float-law b n s i f =
      by_body (λ (body : Body). is_break body ≡ false → HasSort (tree_styles nodes styles) b (in_tree b n s) false body → IsFloat (tree_styles nodes styles) b) n.body i.element
      (λ element e h. float-of (tree_styles nodes styles) b (in_tree b n s) element e (own-float b n s i ∙ f) h) i.no_break (element-sorted b n s i)

  pub block-law : (b : BoxNode) (n : Node) (s : Style) → IsElementBox nodes styles b n s → floats s ≡ false → s.display ≡ of_display.Block → IsBlock (tree_styles nodes styles) b (clips_at (tree_styles nodes styles) b.node)
  block-law b n s i f d =
      subst (λ (clips : Bool). IsBlock (tree_styles nodes styles) b clips) (own-clip b n s i.box)
      (by_body (λ (body : Body). is_break body ≡ false → HasSort (tree_styles nodes styles) b (in_tree b n s) false body → IsBlock (tree_styles nodes styles) b (in_tree b n s).clips) n.body i.element
      (λ element e h. block-of (tree_styles nodes styles) b (in_tree b n s) element e (own-float b n s i ∙ f) d h) i.no_break (element-sorted b n s i))

  pub inline-block-law : (b : BoxNode) (n : Node) (s : Style) → IsElementBox nodes styles b n s → floats s ≡ false → s.display ≡ of_display.InlineBlock → IsAtomic (tree_styles nodes styles) b true
  inline-block-law b n s i f d =
      by_body (λ (body : Body). is_break body ≡ false → HasSort (tree_styles nodes styles) b (in_tree b n s) false body → IsAtomic (tree_styles nodes styles) b true) n.body i.element
      (λ element e h. inline-block-of (tree_styles nodes styles) b (in_tree b n s) element e (own-float b n s i ∙ f) d h) i.no_break (element-sorted b n s i)

  pub inline-law : (b : BoxNode) (n : Node) (s : Style) → IsElementBox nodes styles b n s → floats s ≡ false → s.display ≡ of_display.Inline → is_replaced_body n.body ≡ false → IsInPieces (tree_styles nodes styles) b of_kind.Inline
  inline-law b n s i f d r =
      by_body (λ (body : Body). is_break body ≡ false → is_replaced_body body ≡ false → HasSort (tree_styles nodes styles) b (in_tree b n s) false body → IsInPieces (tree_styles nodes styles) b of_kind.Inline) n.body i.element
      (λ element e r h. inline-of (tree_styles nodes styles) b (in_tree b n s) element e (own-float b n s i ∙ f) d r h) i.no_break r (element-sorted b n s i)

  pub image-law : (b : BoxNode) (n : Node) (s : Style) → IsElementBox nodes styles b n s → floats s ≡ false → s.display ≡ of_display.Inline → is_replaced_body n.body ≡ true → IsAtomic (tree_styles nodes styles) b false
  image-law b n s i f d r =
      by_body (λ (body : Body). is_break body ≡ false → is_replaced_body body ≡ true → HasSort (tree_styles nodes styles) b (in_tree b n s) false body → IsAtomic (tree_styles nodes styles) b false) n.body i.element
      (λ element e r h. image-of (tree_styles nodes styles) b (in_tree b n s) element e (own-float b n s i ∙ f) d r h) i.no_break r (element-sorted b n s i)

  -- a text is not the root, which is an element
  text-inside : (at : ℕ) (n : Node) → slice_get nodes at ≡ Some n → is_element n.body ≡ false → (z : Bool) → (at == 0) ≡ z → z ≡ false
  text-inside at n e t false z = refl
  text-inside at n e t true z =
      let root : option_map_or (λ (n : Node). is_element n.body) (slice_get nodes 0) false ≡ true = page.root in
      let here : slice_get nodes 0 ≡ Some n = ap (slice_get nodes) (sym (eqb-true at 0 z)) ∙ e in
      absurd (let element = sym (ap (λ (o : Option Node). option_map_or (λ (n : Node). is_element n.body) o false) here) ∙ root in cc)

  pub text-law : (b : BoxNode) (n : Node) (s : Style) → IsOwnBox nodes styles b n s → is_element n.body ≡ false → IsInPieces (tree_styles nodes styles) b of_kind.Chars
  text-law b n s i t =
      by_text n.body t (subst (λ (r : Bool). HasSort (tree_styles nodes styles) b (in_tree b n s) r n.body) (text-inside b.node n i.node t (b.node == 0) refl) (sorted b n s i))
    where
      by_text : (body : Body) → is_element body ≡ false → HasSort (tree_styles nodes styles) b (in_tree b n s) false body → IsInPieces (tree_styles nodes styles) b of_kind.Chars
      by_text (of_body.Chars text) e h = text-of (tree_styles nodes styles) b (in_tree b n s) text h
      by_text (of_body.Element element) e h = absurd (cc)

  -- a `br` is not replaced
  no_image : (body : Body) → is_break body ≡ true → is_replaced_body body ≡ false
  no_image (of_body.Chars text) e = refl
  no_image (of_body.Element element) e = let tag = (bytes_eq-Decides element.tag (codes "br")).0 e in rw tag (and-false (is_some element.size))

  pub break-law : (b : BoxNode) (n : Node) (s : Style) → IsOwnBox nodes styles b n s → 0 < b.node → is_break n.body ≡ true → IsInPieces (tree_styles nodes styles) b of_kind.Break
  break-law b n s i l e =
      break-of (tree_styles nodes styles) b (in_tree b n s) n.body e (no_image n.body e)
      (subst (λ (r : Bool). HasSort (tree_styles nodes styles) b (in_tree b n s) r n.body) (inside b.node l) (sorted b n s i))

  itself : (at : ℕ) → at ≡ 0 → (at == 0) ≡ true
  itself at e = rw e refl

  pub root-law : (b : BoxNode) (n : Node) (s : Style) → IsOwnBox nodes styles b n s → b.node ≡ 0 → IsBlock (tree_styles nodes styles) b true
  root-law b n s i z =
      root-of (tree_styles nodes styles) b (in_tree b n s) n.body (no_float (is_element n.body) refl)
      (subst (λ (r : Bool). HasSort (tree_styles nodes styles) b (in_tree b n s) r n.body) (itself b.node z) (sorted b n s i))
    where
      no_float : (t : Bool) → is_element n.body ≡ t → (in_tree b n s).float ≡ None
      no_float true t = rw (t, z) refl
      no_float false t = absurd (let not_root = text-inside b.node n i.node t (b.node == 0) refl in let root = itself b.node z in cc)

  pub anonymous-law : (at : ℕ) (b : BoxNode) → slice_get (page_boxes nodes styles) at ≡ Some b → is_anon b.kind ≡ true → IsBlock (tree_styles nodes styles) b false
  anonymous-law at b e a = by_box (page_box_is nodes styles page at b e)
    where
      by_box : IsBoxOf (items_of (page_parts nodes styles)) at b → IsBlock (tree_styles nodes styles) b false
      by_box (IsBoxOf.anonymous x run j r t p s) = rw s (record { floats = refl; block_level = refl; inline_level = refl; context = refl })
      by_box (IsBoxOf.own x j p s) =
          let k = item_known nodes styles page x j in
          let kind = ap (λ (c : BoxNode). is_anon c.kind) s ∙ (ap (λ (q : Part). is_anon q.kind) k.is ∙ no_anon k.entry.body (x.part.node == 0) k.style) in
          absurd (cc)

  pub replaced-law : (b : BoxNode) (n : Node) (s : Style) → IsOwnBox nodes styles b n s → is_replaced b.kind ≡ is_replaced_body n.body
  replaced-law b n s i =
      let h = sorted b n s i in
      ap is_replaced h.kind ∙ (sym (sized n.body (b.node == 0) (in_tree b n s) (0, 0)) ∙ by_test (0, 0) (is_replaced_body n.body))
    where
      by_test : (size : ℕ × ℕ) (r : Bool) → is_some (if r then Some size else None) ≡ r
      by_test size true = refl
      by_test size false = refl
