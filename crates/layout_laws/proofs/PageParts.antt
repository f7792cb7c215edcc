-- The parts of a page, after white space has gone: what each one is, and that they are arranged.
use Rattle.std.proofs.Common.{◌≡◌, ℕ, suc, Bool, true, false, not, ◌==◌, ◌&&◌, List, [], ◌∷◌, map, length, Option, Some, None, option_and_then, slice_get, refl, sym, ◌∙◌, ap, subst, arith, if◌then◌else◌, Contains}
use Rattle.std.specs.Option.{option_map_or}
use Rattle.std.proofs.lemmas.Option.{slice_get_within}
use Rattle.std.proofs.lemmas.Bool.{not-true}
use Rattle.viz_base.specs.Pages.{IsPage, is_element, is_break, is_replaced}
use Rattle.viz_base.specs.Trees.{is_chars}
use Rattle.viz_base.specs.declared.nodes.Body.{Body}
use Rattle.viz_base.specs.declared.nodes.Body.TheVariants as of_body
use Rattle.viz_base.specs.declared.nodes.Node.{Node}
use Rattle.viz_base.specs.declared.styles.Display.{Display}
use Rattle.viz_base.specs.declared.styles.Display.TheVariants as of_display
use Rattle.viz_base.specs.declared.styles.Style.{Style}
use Rattle.viz_base.specs.declared.trees.Kind.{Kind}
use Rattle.viz_base.specs.declared.trees.Kind.TheVariants as of_kind
use Rattle.viz_base.proofs.ListLemmas.{slice_some}
use Rattle.viz_base.specs.Orders.{Rises}
use Rattle.layout_semantics.specs.Elements.{is_shown, parent_of}
use Rattle.layout_semantics.specs.Parts.{Part, Level, kind_of_node, level_kind, inline_kind, level_of, part_of, shown_parts}
use Rattle.layout_semantics.specs.WhiteSpace.{collapsed, collapsed_part, is_bare}
use Rattle.layout_laws.proofs.Members.{rises_filter, to_map, from_map, from_filter, to_filter}
use Rattle.layout_laws.proofs.Shown.{from_shown, to_shown, shown_rise}
use Rattle.layout_laws.proofs.Above.{parent_is, parent_shown}
use Rattle.layout_laws.proofs.Runs.{AreParts}

-- ---- kinds

-- a test that the kinds of elements pass, each for a cause
pub element_kind : (test : Kind → Bool) (b : Bool) (element : _) (is_root : Bool) (s : Style)
    → test of_kind.Replaced ≡ b → test of_kind.Block ≡ b → test of_kind.Float ≡ b → test of_kind.Break ≡ b → test of_kind.Atomic ≡ b → test of_kind.Inline ≡ b
    → test (kind_of_node is_root (of_body.Element element) s) ≡ b
element_kind test b element is_root s replaced block float break atomic inline =
    by_replaced (is_replaced (of_body.Element element)) (by_level (level_of is_root (of_body.Element element) s))
  where
    by_break : (t : Bool) (k : Kind) → test k ≡ b → test (if t then of_kind.Break else k) ≡ b
    by_break true k e = break
    by_break false k e = e

    by_display : (d : Display) → test (inline_kind (of_body.Element element) d) ≡ b
    by_display of_display.Hidden = by_break (is_break (of_body.Element element)) of_kind.Inline inline
    by_display of_display.Block = by_break (is_break (of_body.Element element)) of_kind.Inline inline
    by_display of_display.Inline = by_break (is_break (of_body.Element element)) of_kind.Inline inline
    by_display of_display.InlineBlock = by_break (is_break (of_body.Element element)) of_kind.Atomic atomic

    by_level : (l : Level) → test (level_kind l (of_body.Element element) s.display) ≡ b
    by_level Level.block = block
    by_level Level.floated = float
    by_level Level.inline = by_display s.display

    by_replaced : (r : Bool) → test (level_kind (level_of is_root (of_body.Element element) s) (of_body.Element element) s.display) ≡ b
        → test (if r then of_kind.Replaced else level_kind (level_of is_root (of_body.Element element) s) (of_body.Element element) s.display) ≡ b
    by_replaced true e = replaced
    by_replaced false e = e

pub no_chars : (body : Body) (is_root : Bool) (s : Style) → is_element body ≡ true → is_chars (kind_of_node is_root body s) ≡ false
no_chars (of_body.Element element) is_root s e = element_kind is_chars false element is_root s refl refl refl refl refl refl
no_chars (of_body.Chars text) is_root s e = absurd (cc)

-- ---- parts

-- what a part of a page is
pub record IsPagePart (nodes : List Node) (styles : List Style) (p : Part) : Type 0 where
  pub entry : Node
  pub style : Style
  pub node_is : slice_get nodes p.node ≡ Some entry
  pub style_is : slice_get styles p.node ≡ Some style
  pub shown : is_shown nodes styles p.node ≡ true
  -- the part but for its text
  pub is : p ≡ record (part_of nodes styles p.node entry style) { text = p.text }
  pub not_bare : is_bare p ≡ false

part_shape : (parts : List Part) (q r p : Part) → q ≡ r → collapsed_part parts q ≡ p → p ≡ record r { text = p.text }
part_shape parts q r p e f = sym f ∙ (ap (λ (t : List ℕ). record q { text = t }) (ap (λ (o : Part). o.text) f) ∙ ap (λ (o : Part). record o { text = p.text }) e)

module _ (nodes : List Node) (styles : List Style) where
  pub from_page : (p : Part) → Contains (collapsed (shown_parts nodes styles)) p → IsPagePart nodes styles p
  from_page p i =
      let all = shown_parts nodes styles in
      let kept = from_filter (λ p. not (is_bare p)) (map (collapsed_part all) all) p i in
      let from = from_map (collapsed_part all) all p kept.0 in
      let known = from_shown nodes styles from.0 from.1 in
      let node : from.0.node ≡ p.node = ap (λ (q : Part). q.node) from.2 in
      let shape = part_shape all from.0 (part_of nodes styles from.0.node known.entry known.style) p known.is from.2 in
      record {
        entry = known.entry;
        style = known.style;
        node_is = subst (λ k. slice_get nodes k ≡ Some known.entry) node known.node_is;
        style_is = subst (λ k. slice_get styles k ≡ Some known.style) node known.style_is;
        shown = subst (λ k. is_shown nodes styles k ≡ true) node known.shown;
        is = subst (λ k. p ≡ record (part_of nodes styles k known.entry known.style) { text = p.text }) node shape;
        not_bare = not-true (is_bare p) kept.1;
      }

  rises_same : (parts ps : List Part) (low : ℕ) → Rises low (map (λ (p : Part). p.node) ps) → Rises low (map (λ (p : Part). p.node) (map (collapsed_part parts) ps))
  rises_same parts [] low r = tt
  rises_same parts (p ∷ ps) low r = (r.0, rises_same parts ps (suc p.node) r.1)

  pub page_rises : Rises 0 (map (λ (p : Part). p.node) (collapsed (shown_parts nodes styles)))
  page_rises =
      rises_filter (λ (p : Part). p.node) (λ p. not (is_bare p)) 0 (map (collapsed_part (shown_parts nodes styles)) (shown_parts nodes styles))
      (rises_same (shown_parts nodes styles) (shown_parts nodes styles) 0 (shown_rise nodes styles))

  -- an element that is shown has a part
  pub to_page : (at : ℕ) (n : Node) (s : Style) → slice_get nodes at ≡ Some n → slice_get styles at ≡ Some s → is_shown nodes styles at ≡ true → is_element n.body ≡ true
      → (p : Part) × Contains (collapsed (shown_parts nodes styles)) p × (p.node ≡ at)
  to_page at n s e t h element =
      let all = shown_parts nodes styles in
      let bare : not (is_bare (collapsed_part all (part_of nodes styles at n s))) ≡ true = by_kind (is_chars (kind_of_node (at == 0) n.body s)) (no_chars n.body (at == 0) s element) (length (collapsed_part all (part_of nodes styles at n s)).text == 0) in
      (collapsed_part all (part_of nodes styles at n s), to_filter (λ p. not (is_bare p)) (map (collapsed_part all) all) (collapsed_part all (part_of nodes styles at n s)) (to_map (collapsed_part all) all (part_of nodes styles at n s) (to_shown nodes styles at n s e t h)) bare, refl)
    where
      by_kind : (k : Bool) → k ≡ false → (l : Bool) → not (k && l) ≡ true
      by_kind k e l = ap (λ b. not (b && l)) e

-- ---- parents

element_at : (nodes : List Node) (q : ℕ) (o : Option Node) → slice_get nodes q ≡ o → option_map_or (λ (n : Node). is_element n.body) o false ≡ true → (n : Node) × (slice_get nodes q ≡ Some n) × (is_element n.body ≡ true)
element_at nodes q None e t = absurd (cc)
element_at nodes q (Some n) e t = (n, e, t)

module _ (nodes : List Node) (styles : List Style) (page : IsPage nodes) where
  -- the node that a part's box is in
  pub part_parent : (p : Part) → IsPagePart nodes styles p → parent_of nodes p.node ≡ p.parent
  part_parent p k = ap (option_and_then (λ (n : Node). n.parent)) k.node_is ∙ sym (ap (λ (q : Part). q.parent) k.is)

  pub parts_of_page : AreParts (collapsed (shown_parts nodes styles))
  parts_of_page = record {
    rises = page_rises nodes styles;
    parents = λ p q i e.
        let known = from_page nodes styles p i in
        let up = part_parent p known ∙ e in
        let above = parent_is nodes page p.node q up in
        let here = slice_get_within nodes p.node known.entry known.node_is in
        let styled = slice_get_within styles p.node known.style known.style_is in
        let there = element_at nodes q (slice_get nodes q) refl above.1 in
        let style = slice_some styles q (omega (arith, above.0, styled)) in
        let shown = parent_shown nodes page styles p.node q here up known.shown in
        let parent = to_page nodes styles q there.0 style.0 there.1 style.1 shown.0 there.2 in
        record { before = above.0; parent = parent.0; inside = parent.1; node = parent.2 };
  }
