-- What the walks need of the boxes of a page.
use Rattle.std.proofs.lemmas.List.{length-replicate, get_or-replicate}
use Rattle.std.proofs.Common.{◌≡◌, ℕ, zero, suc, ◌==◌, ◌<◌, ◌≤◌, Bool, true, false, not, List, [], find, length, replicate, IsTrue, Option, Some, None, option_and_then, slice_get, refl, sym, ◌∙◌, ap, subst, arith, if◌then◌else◌, inl, inr, ◌⊎◌, eqb-true, eq-eqb, Contains}
use Rattle.std.specs.Option.{option_map_or}
use Rattle.std.specs.Str.{chars}
use Rattle.std.proofs.lemmas.Option.{slice_get_within}
use Rattle.std.proofs.lemmas.Str.{chars-nil}
use Rattle.viz_base.specs.Pages.{IsPage, is_element, is_element_at, is_replaced, parent_fits, text_of}
use Rattle.viz_base.specs.Trees.{is_chars, is_fragmented, is_inline}
use Rattle.viz_base.specs.declared.nodes.Body.{Body}
use Rattle.viz_base.specs.declared.nodes.Body.TheVariants as of_body
use Rattle.viz_base.specs.declared.nodes.Node.{Node}
use Rattle.viz_base.specs.declared.styles.Style.{Style}
use Rattle.viz_base.specs.declared.trees.Kind.{Kind}
use Rattle.viz_base.specs.declared.trees.Kind.TheVariants as of_kind
use Rattle.layout_semantics.specs.Elements.{ancestors, parent_of}
use Rattle.layout_semantics.specs.Parts.{Part, Level, container_of, is_inline_at, kind_of_node, level_of, shown_parts}
use Rattle.layout_semantics.specs.WhiteSpace.{collapsed}
use Rattle.layout_laws.proofs.Shown.{IsShownPart, from_shown, shown_rise}
use Rattle.layout_laws.proofs.Above.{parent_is, ancestors_are}
use Rattle.layout_laws.proofs.BoxContent.{upwards_within}
use Rattle.layout_laws.proofs.Runs.{found_in}
use Rattle.layout_laws.proofs.PageParts.{no_chars, from_page, part_parent}
use Rattle.page_boxes.specs.steps.Spaces.{spaces_walk}
use Rattle.page_boxes.proofs.SpaceSteps.{Fits, HasText, spaces_walk_is}

-- ---- the root

pub root_whole : (body : Body) (s : Style) → is_fragmented (kind_of_node true body s) ≡ false
root_whole body s = by_replaced (is_replaced body)
  where
    by_replaced : (t : Bool) → is_fragmented (if t then of_kind.Replaced else of_kind.Block) ≡ false
    by_replaced true = refl
    by_replaced false = refl

root_kind : (body : Body) (s : Style) → is_inline (kind_of_node true body s) ≡ false
root_kind body s = by_replaced (is_replaced body)
  where
    by_replaced : (t : Bool) → is_inline (if t then of_kind.Replaced else of_kind.Block) ≡ false
    by_replaced true = refl
    by_replaced false = refl

module _ (nodes : List Node) (styles : List Style) (page : IsPage nodes) where
  -- what is no root has a parent
  has_parent : (at : ℕ) (n : Node) → slice_get nodes at ≡ Some n → (at == 0) ≡ false → (q : ℕ) × (parent_of nodes at ≡ Some q)
  has_parent at n e f = by_parent n.parent refl (page.parents at n e)
    where
      by_parent : (o : Option ℕ) → n.parent ≡ o → IsTrue (parent_fits nodes at o) → (q : ℕ) × (parent_of nodes at ≡ Some q)
      by_parent None p t = let none : false ≡ true = sym f ∙ t in absurd (cc)
      by_parent (Some q) p t = (q, ap (option_and_then (λ (m : Node). m.parent)) e ∙ p)

  pub root_has_none : (at : ℕ) (n : Node) → slice_get nodes at ≡ Some n → n.parent ≡ None → at ≡ 0
  root_has_none at n e p = eqb-true at 0 (subst (λ o. IsTrue (parent_fits nodes at o)) p (page.parents at n e))

  not_inline : (o : Option Kind) → option_map_or is_inline o false ≡ true → (k : Kind) × (o ≡ Some k) × (is_inline k ≡ true)
  not_inline None e = absurd (cc)
  not_inline (Some k) e = (k, refl, e)

  -- an inline box is in another element
  inline_parent : (q : ℕ) → is_inline_at nodes styles q ≡ true → (r : ℕ) × (parent_of nodes q ≡ Some r)
  inline_parent q t = by_node (slice_get nodes q) (slice_get styles q) refl refl (q == 0) refl
    where
      by_node : (o : Option Node) (u : Option Style) → slice_get nodes q ≡ o → slice_get styles q ≡ u → (z : Bool) → (q == 0) ≡ z → (r : ℕ) × (parent_of nodes q ≡ Some r)
      by_node None u e f z g = let none : is_inline_at nodes styles q ≡ false = rw e refl in let both : true ≡ false = sym t ∙ none in absurd (cc)
      by_node (Some m) None e f z g = let none : is_inline_at nodes styles q ≡ false = rw (e, f) refl in let both : true ≡ false = sym t ∙ none in absurd (cc)
      by_node (Some m) (Some s) e f false g = has_parent q m e g
      by_node (Some m) (Some s) e f true g =
          let here : is_inline_at nodes styles q ≡ is_inline (kind_of_node (q == 0) m.body s) = rw (e, f) refl in
          let none : true ≡ false = sym t ∙ (here ∙ (ap (λ b. is_inline (kind_of_node b m.body s)) g ∙ root_kind m.body s)) in
          absurd (cc)

  -- what is in an element has a block container
  first_container : (at q : ℕ) → at < length nodes → parent_of nodes at ≡ Some q → ((r : ℕ) → r < q → parent_of nodes q ≡ Some r → (c : ℕ) × (container_of nodes styles q ≡ Some c)) → (c : ℕ) × (container_of nodes styles at ≡ Some c)
  first_container at q within e again = by_test (is_inline_at nodes styles q) refl
    where
      whole : container_of nodes styles at ≡ (if not (is_inline_at nodes styles q) then Some q else container_of nodes styles q)
      whole = ap (find (λ a. not (is_inline_at nodes styles a))) (ancestors_are nodes page at q within e)

      by_test : (t : Bool) → is_inline_at nodes styles q ≡ t → (c : ℕ) × (container_of nodes styles at ≡ Some c)
      by_test false s = (q, whole ∙ ap (λ b. if not b then Some q else container_of nodes styles q) s)
      by_test true s =
          let up = inline_parent q s in
          let found = again up.0 (parent_is nodes page q up.0 up.1).0 up.1 in
          (found.0, whole ∙ (ap (λ b. if not b then Some q else container_of nodes styles q) s ∙ found.1))

  container_there : (levels at q : ℕ) → q ≤ levels → at < length nodes → parent_of nodes at ≡ Some q → (c : ℕ) × (container_of nodes styles at ≡ Some c)
  container_there zero at q l within e = first_container at q within e (λ r m f. absurd (omega (arith, l, m)))
  container_there (suc levels) at q l within e =
      let before = (parent_is nodes page at q e).0 in
      first_container at q within e (λ r m f. container_there levels q r (omega (arith, l, m)) (omega (arith, before, within)) f)

  container_within : (at c : ℕ) → at < length nodes → container_of nodes styles at ≡ Some c → c < length nodes
  container_within at c l e =
      let i = (found_in (λ a. not (is_inline_at nodes styles a)) (ancestors nodes at) c e).0 in
      upwards_within (length nodes) nodes page (parent_of nodes at) c (λ q p. let before = (parent_is nodes page at q p).0 in omega (arith, before, l)) i

  -- ---- boxes of nodes

  text_by : (body : Body) (is_root : Bool) (s : Style) → (is_root ≡ true → is_element body ≡ true)
      → ((level_of is_root body s ≡ Level.inline) × (kind_of_node is_root body s ≡ of_kind.Chars)) ⊎ (chars (text_of body) ≡ [])
  text_by (of_body.Element element) is_root s f = inr chars-nil
  text_by (of_body.Chars text) true s f = let none : false ≡ true = f refl in absurd (cc)
  text_by (of_body.Chars text) false s f = inl (refl, refl)

  root_is_element : (at : ℕ) (n : Node) → slice_get nodes at ≡ Some n → (at == 0) ≡ true → is_element n.body ≡ true
  root_is_element at n e z =
      let zero_at : at ≡ 0 = eqb-true at 0 z in
      let root : is_element_at nodes 0 ≡ true = page.root in
      sym (ap (λ (o : Option Node). option_map_or (λ (m : Node). is_element m.body) o false) (ap (slice_get nodes) (sym zero_at) ∙ e)) ∙ root

  pub shown_fits : (p : Part) → Contains (shown_parts nodes styles) p → Fits (length nodes) p
  shown_fits p i =
      let k = from_shown nodes styles p i in
      let text_is : p.text ≡ chars (text_of k.entry.body) = ap (λ (q : Part). q.text) k.is in
      let container_is : p.container ≡ container_of nodes styles p.node = ap (λ (q : Part). q.container) k.is in
      let here = slice_get_within nodes p.node k.entry k.node_is in
      record {
        text = by_sort k (text_by k.entry.body (p.node == 0) k.style (λ z. root_is_element p.node k.entry k.node_is z));
        outside = λ e. text_is ∙ by_parent k (parent_of nodes p.node) refl (sym container_is ∙ e);
        within = λ c e. container_within p.node c here (sym container_is ∙ e);
      }
    where
      by_sort : (k : IsShownPart nodes styles p) → ((level_of (p.node == 0) k.entry.body k.style ≡ Level.inline) × (kind_of_node (p.node == 0) k.entry.body k.style ≡ of_kind.Chars)) ⊎ (chars (text_of k.entry.body) ≡ []) → HasText p
      by_sort k (inl h) = inl (ap (λ (q : Part). q.level) k.is ∙ h.0, ap (λ (q : Part). q.kind) k.is ∙ h.1)
      by_sort k (inr h) = inr (ap (λ (q : Part). q.text) k.is ∙ h)

      no_text : (body : Body) → is_element body ≡ true → chars (text_of body) ≡ []
      no_text (of_body.Element element) e = chars-nil
      no_text (of_body.Chars text) e = absurd (cc)

      by_parent : (k : IsShownPart nodes styles p) (o : Option ℕ) → parent_of nodes p.node ≡ o → container_of nodes styles p.node ≡ None → chars (text_of k.entry.body) ≡ []
      by_parent k None e none =
          let alone : k.entry.parent ≡ None = sym (ap (option_and_then (λ (m : Node). m.parent)) k.node_is) ∙ e in
          let zero_at = root_has_none p.node k.entry k.node_is alone in
          no_text k.entry.body (root_is_element p.node k.entry k.node_is (eq-eqb p.node 0 zero_at))
      by_parent k (Some q) e none =
          let found = container_there q p.node q (omega arith) (slice_get_within nodes p.node k.entry k.node_is) e in
          let both : None ≡ Some found.0 = sym none ∙ found.1 in
          absurd (cc)

  -- white space goes as the definition says
  pub spaces_are : spaces_walk (replicate (length nodes) false) (shown_parts nodes styles) ≡ collapsed (shown_parts nodes styles)
  spaces_are = spaces_walk_is (length nodes) 0 (replicate (length nodes) false) (shown_parts nodes styles) (length-replicate (length nodes) false) (λ c l. get_or-replicate (length nodes) c false false l) (shown_rise nodes styles) (λ p i. shown_fits p i)

  -- ---- boxes that are left

  pub parent_within : (p : Part) (q : ℕ) → Contains (collapsed (shown_parts nodes styles)) p → p.parent ≡ Some q → q < length nodes
  parent_within p q i e =
      let k = from_page nodes styles p i in
      let before = (parent_is nodes page p.node q (part_parent nodes styles page p k ∙ e)).0 in
      let here = slice_get_within nodes p.node k.entry k.node_is in
      omega (arith, before, here)

  pub root_level : (p : Part) → Contains (collapsed (shown_parts nodes styles)) p → p.parent ≡ None → p.level ≡ Level.block
  root_level p i e =
      let k = from_page nodes styles p i in
      let alone : k.entry.parent ≡ None = sym (ap (λ (q : Part). q.parent) k.is) ∙ e in
      let zero_at = root_has_none p.node k.entry k.node_is alone in
      ap (λ (q : Part). q.level) k.is ∙ ap (λ b. level_of b k.entry.body k.style) (eq-eqb p.node 0 zero_at)

  -- a text is in an element
  pub text_parent : (at : ℕ) (n : Node) (s : Style) → slice_get nodes at ≡ Some n → is_chars (kind_of_node (at == 0) n.body s) ≡ true → (q : ℕ) × (parent_of nodes at ≡ Some q)
  text_parent at n s e c = by_root (at == 0) refl
    where
      by_root : (z : Bool) → (at == 0) ≡ z → (q : ℕ) × (parent_of nodes at ≡ Some q)
      by_root false g = has_parent at n e g
      by_root true g =
          let element = root_is_element at n e g in
          let kind : true ≡ false = sym c ∙ no_chars n.body (at == 0) s element in
          absurd (cc)
