-- What the fonts and the raise of a box cost, at most.
use Rattle.std.proofs.Common.{◌≡◌, ℕ, suc, ◌+◌, ◌*◌, ◌^◌, ◌≤◌, nat_le, true, ℤ, pos, unsigned_abs, map, sum, List, Option, Some, None, IsTrue, slice_get, refl, sym, ap, ◌∙◌, subst, arith, mul-le-mul_left}
use Rattle.std.specs.Option.{option_map_or, option_and_then}
use Rattle.std.proofs.lemmas.Bool.Decides.{nat_tests}
use Rattle.viz_base.specs.FontSizes.{fraction, measured, default_size, computed_size, computed_line, font_size_in, line_height_in, ascent_in, descent_in, node_measure_in}
use Rattle.viz_base.specs.Reaches.{is_of_element, ratio, extent, lengths_of, raise_extent, font_extent, intrinsic_extent, own_extent}
use Rattle.viz_base.specs.Styles.{is_nonnegative, is_good_line}
use Rattle.viz_base.specs.Trees.{is_chars, is_line, is_same_size}
use Rattle.viz_base.specs.declared.fonts.Font.{Font}
use Rattle.viz_base.specs.declared.lengths.Length.TheVariants as of_length
use Rattle.viz_base.specs.declared.lengths.LineHeight.{LineHeight}
use Rattle.viz_base.specs.declared.lengths.LineHeight.TheVariants as of_line
use Rattle.viz_base.specs.declared.lengths.Size.{Size}
use Rattle.viz_base.specs.declared.lengths.Size.TheVariants as of_size
use Rattle.viz_base.specs.declared.lengths.Valign.{Valign}
use Rattle.viz_base.specs.declared.lengths.Valign.TheVariants as of_valign
use Rattle.viz_base.specs.declared.styles.Style.{Style}
use Rattle.viz_base.specs.declared.trees.BoxNode.{BoxNode}
use Rattle.viz_base.specs.declared.trees.BoxTree.{BoxTree}
use Rattle.viz_base.specs.declared.trees.Kind.{Kind}
use Rattle.viz_base.specs.declared.trees.Kind.TheVariants as of_kind
use Rattle.viz_base.specs.declared.worlds.World.{World}
use Rattle.layout_semantics.specs.Blocks.{kind_of, style_of}
use Rattle.layout_semantics.specs.Lengths.{own, own_style}
use Rattle.layout_semantics.proofs.Forest.{both}
use Rattle.layout_laws.proofs.FontSizes.{font-of-style}
use Rattle.layout_laws.proofs.Reaching.{ratio_least}
use Rattle.layout_laws.proofs.TreeFacts.{slice_in}
use Rattle.lay_length.proofs.SmallExtents.{IsLowTree, IsElementOf, element-around, own-is, own_low, style-of, element-box}
use Rattle.lay_length.proofs.SmallFonts.{IsUpTo, fraction-up, size-up}

-- ---- the measures of a font grow with the default size

same-up : (n : ℕ) → IsUpTo (pos n) (pos n)
same-up n = record { low = n; high = n; is = refl; most_is = refl; below = omega arith }

px-up : (c : ℤ) → IsTrue (is_nonnegative c) → IsUpTo c c
px-up (pos n) t = same-up n
px-up _ t = absurd (cc)

module _ (styles : List Style) (parents : List (Option ℕ)) (s t : ℕ) (l : s ≤ t) where
  pub line-up : (node : ℕ) → IsUpTo (line_height_in styles parents s node) (line_height_in styles parents t node)
  line-up node = by (slice_get styles node)
    where
      line : (h : LineHeight) → IsTrue (is_good_line h) → IsUpTo (computed_line styles parents s node h) (computed_line styles parents t node h)
      line (of_line.Own num den) g =
          let parts = both (is_nonnegative num) (nat_le 1 den) g in
          fraction-up num den (font_size_in styles parents s node) (font_size_in styles parents t node) parts.0 (grind (arith, nat_tests, parts.1)) (size-up styles parents s t l (suc node) node)
      line (of_line.Px c) g = px-up c g
      line (of_line.OfNode from num den) g =
          let parts = both (is_nonnegative num) (nat_le 1 den) g in
          fraction-up num den (font_size_in styles parents s from) (font_size_in styles parents t from) parts.0 (grind (arith, nat_tests, parts.1)) (size-up styles parents s t l (suc from) from)

      by : (o : Option Style) → IsUpTo (option_map_or (λ (style : Style). computed_line styles parents s node style.line) o (pos 0)) (option_map_or (λ (style : Style). computed_line styles parents t node style.line) o (pos 0))
      by None = same-up 0
      by (Some style) = line style.line style.ok.line_good

  pub measure-up : (fonts : List Font) (node : ℕ) (units : Font → ℕ) → IsUpTo (node_measure_in styles parents fonts s node units) (node_measure_in styles parents fonts t node units)
  measure-up fonts node units = by (option_and_then (λ (style : Style). slice_get fonts style.font) (slice_get styles node))
    where
      by : (o : Option Font) → IsUpTo (option_map_or (λ (font : Font). measured font (font_size_in styles parents s node) (units font)) o (pos 0)) (option_map_or (λ (font : Font). measured font (font_size_in styles parents t node) (units font)) o (pos 0))
      by None = same-up 0
      by (Some font) = fraction-up (pos (units font)) font.upem (font_size_in styles parents s node) (font_size_in styles parents t node) refl font.ok.has_em (size-up styles parents s t l (suc node) node)

-- ---- the fonts of a box are those of an element

module _ (tree : BoxTree) (low : IsLowTree tree) (w : World) (small : w.s ≤ 256) where
  abbrev pub font_cost : ℕ → ℕ
  font_cost = font_extent tree.styles tree.parents tree.fonts

  abbrev pub raise_cost : ℕ → Valign → ℕ
  raise_cost = raise_extent tree.styles tree.parents tree.fonts

  abbrev pub valign_of : ℕ → Valign
  valign_of k = own tree k (λ (s : Style). s.valign) of_valign.Baseline

  abbrev size_at : ℕ → ℤ
  size_at = font_size_in tree.styles tree.parents 256

  -- an element's raise and fonts are within its extent
  pub element-cost : (k : ℕ) (x : BoxNode) (s : Style) → IsElementOf tree k x s → raise_cost x.node s.valign + font_cost x.node ≤ own_extent tree.styles tree.parents tree.fonts x
  element-cost k x s b =
      let own_is = own-is tree low w small k x s b in
      let inner : ℕ = sum (map (extent tree.styles tree.parents tree.fonts) (lengths_of s)) + raise_cost x.node s.valign + font_cost x.node + intrinsic_extent x.size in
      let once : inner * 1 ≤ inner * ratio x.size = mul-le-mul_left inner (ratio_least x.size) in
      omega (arith, own_is, once)

  -- the style of a text is that of the element that it is in
  alike-size : (node p : ℕ) (s t : Style) → size_at node ≡ size_at p → slice_get tree.styles node ≡ Some s → slice_get tree.styles p ≡ Some t → s.font ≡ t.font
      → (units : Font → ℕ) → node_measure_in tree.styles tree.parents tree.fonts 256 node units ≡ node_measure_in tree.styles tree.parents tree.fonts 256 p units
  alike-size node p s t size own_is other_is font units =
      ap (λ (o : Option Style). option_map_or (λ (f : Font). measured f (size_at node) (units f)) (option_and_then (λ (style : Style). slice_get tree.fonts style.font) o) (pos 0)) own_is
      ∙ ap (λ (z : ℤ). option_map_or (λ (f : Font). measured f z (units f)) (slice_get tree.fonts s.font) (pos 0)) size
      ∙ ap (λ (n : ℕ). option_map_or (λ (f : Font). measured f (size_at p) (units f)) (slice_get tree.fonts n) (pos 0)) font
      ∙ sym (ap (λ (o : Option Style). option_map_or (λ (f : Font). measured f (size_at p) (units f)) (option_and_then (λ (style : Style). slice_get tree.fonts style.font) o) (pos 0)) other_is)

  alike-line : (node p : ℕ) (s t : Style) → size_at node ≡ size_at p → slice_get tree.styles node ≡ Some s → slice_get tree.styles p ≡ Some t → s.line ≡ t.line
      → line_height_in tree.styles tree.parents 256 node ≡ line_height_in tree.styles tree.parents 256 p
  alike-line node p s t size own_is other_is line =
      ap (λ (o : Option Style). option_map_or (λ (style : Style). computed_line tree.styles tree.parents 256 node style.line) o (pos 0)) own_is
      ∙ same s.line
      ∙ ap (computed_line tree.styles tree.parents 256 p) line
      ∙ sym (ap (λ (o : Option Style). option_map_or (λ (style : Style). computed_line tree.styles tree.parents 256 p style.line) o (pos 0)) other_is)
    where
      same : (h : LineHeight) → computed_line tree.styles tree.parents 256 node h ≡ computed_line tree.styles tree.parents 256 p h
      same (of_line.Own num den) = ap (fraction num den) size
      same (of_line.Px c) = refl
      same (of_line.OfNode from num den) = refl

  text-size : (k : ℕ) (x : BoxNode) (p : ℕ) (s : Style) → slice_get tree.boxes k ≡ Some x → x.kind ≡ of_kind.Chars → slice_get tree.parents x.node ≡ Some (Some p) → slice_get tree.styles x.node ≡ Some s
      → size_at x.node ≡ size_at p
  text-size k x p s e kind parent there =
      let above = ap (λ (o : Option (Option ℕ)). option_map_or size_at (option_and_then (λ (parent : Option ℕ). parent) o) (default_size 256)) parent in
      font-of-style tree.styles tree.parents 256 x.node s tree.ok.parents_before there
      ∙ same s.size (tree.ok.texts_same_size k x s e (ap is_chars kind) there) _
      ∙ above
    where
      same : (z : Size) → IsTrue (is_same_size z) → (above : ℤ) → computed_size 256 above z ≡ above
      same of_size.Same t above = refl
      same (of_size.Default num den) t above = absurd (cc)
      same (of_size.Px c) t above = absurd (cc)
      same (of_size.Parent num den) t above = absurd (cc)

  raise-alike : (node p : ℕ) (v : Valign) → line_height_in tree.styles tree.parents 256 node ≡ line_height_in tree.styles tree.parents 256 p → raise_cost node v ≡ raise_cost p v
  raise-alike node p of_valign.Baseline e = refl
  raise-alike node p of_valign.Sub e = refl
  raise-alike node p of_valign.Super e = refl
  raise-alike node p of_valign.Middle e = refl
  raise-alike node p (of_valign.Raise of_length.Auto) e = refl
  raise-alike node p (of_valign.Raise (of_length.Px c)) e = refl
  raise-alike node p (of_valign.Raise (of_length.Em k from)) e = refl
  raise-alike node p (of_valign.Raise (of_length.Pct q)) e = ap (λ (z : ℤ). unsigned_abs (fraction q 100000000 z)) e

  module _ (k : ℕ) (x : BoxNode) (place : slice_get tree.boxes k ≡ Some x) where
    kind-at : (kind : Kind) → x.kind ≡ kind → kind_of tree k ≡ kind
    kind-at kind is = ap (λ (o : Option BoxNode). option_map_or (λ (b : BoxNode). b.kind) o of_kind.Block) place ∙ is

    style-at : (s : Style) → slice_get tree.styles x.node ≡ Some s → style_of tree k ≡ Some s
    style-at s e = ap (option_and_then (λ (b : BoxNode). slice_get tree.styles b.node)) place ∙ e

    valign-at : (o : Option Style) → own_style tree k ≡ o → valign_of k ≡ option_map_or (λ (s : Style). s.valign) o of_valign.Baseline
    valign-at o e = ap (λ (o : Option Style). option_map_or (λ (s : Style). s.valign) o of_valign.Baseline) e

    -- the box of an element has its style
    pub element-style : (s : Style) → slice_get tree.styles x.node ≡ Some s → is_of_element x.kind ≡ true → own_style tree k ≡ Some s
    element-style s e t = by x.kind refl t
      where
        by : (kind : Kind) → x.kind ≡ kind → is_of_element kind ≡ true → own_style tree k ≡ Some s
        by of_kind.Chars is t = absurd (cc)
        by of_kind.Anon is t = absurd (cc)
        by of_kind.Line is t = absurd (cc)
        by of_kind.Block is t = rw (kind-at of_kind.Block is) (style-at s e)
        by of_kind.Float is t = rw (kind-at of_kind.Float is) (style-at s e)
        by of_kind.Atomic is t = rw (kind-at of_kind.Atomic is) (style-at s e)
        by of_kind.Replaced is t = rw (kind-at of_kind.Replaced is) (style-at s e)
        by of_kind.Inline is t = rw (kind-at of_kind.Inline is) (style-at s e)
        by of_kind.Break is t = rw (kind-at of_kind.Break is) (style-at s e)

    -- an element's box
    pub own-cost : is_of_element x.kind ≡ true → raise_cost x.node (valign_of k) + font_cost x.node ≤ own_extent tree.styles tree.parents tree.fonts x
    own-cost t =
        let s = style-of tree low w small k x place in
        let cost = element-cost k x s.0 (record { place = place; style = s.1; element = t }) in
        let is = valign-at (Some s.0) (element-style s.0 s.1 t) in
        subst (λ (v : Valign). raise_cost x.node v + font_cost x.node ≤ own_extent tree.styles tree.parents tree.fonts x) (sym is) cost

    -- any box
    pub box-cost : raise_cost x.node (valign_of k) + font_cost x.node ≤ 2 ^ 40
    box-cost = by x.kind refl
      where
        element : is_of_element x.kind ≡ true → raise_cost x.node (valign_of k) + font_cost x.node ≤ 2 ^ 40
        element t = let own_is = own-cost t in let most = own_low tree low w small x (slice_in tree.boxes k x place) in omega (arith, own_is, most)

        by : (kind : Kind) → x.kind ≡ kind → raise_cost x.node (valign_of k) + font_cost x.node ≤ 2 ^ 40
        by of_kind.Chars is =
            let text = element-around tree.boxes (slice_get tree.parents x.node) (tree.ok.texts_in_elements k x place is) in
            let b = element-box tree low w small text.0 text.2 in
            let s = style-of tree low w small k x place in
            let there : slice_get tree.styles text.0 ≡ Some b.2 = ap (slice_get tree.styles) (sym b.4) ∙ (b.3).style in
            let alike = tree.ok.texts_alike k x text.0 s.0 b.2 place (ap is_chars is) text.1 s.1 there in
            let size = text-size k x text.0 s.0 place is text.1 s.1 in
            let line = alike-line x.node text.0 s.0 b.2 size s.1 there alike.line in
            let up = alike-size x.node text.0 s.0 b.2 size s.1 there alike.font (λ (f : Font). f.ascent) in
            let down = alike-size x.node text.0 s.0 b.2 size s.1 there alike.font (λ (f : Font). f.descent) in
            let own_is : own_style tree k ≡ Some s.0 = rw (kind-at of_kind.Chars is) (style-at s.0 s.1) in
            let valign : valign_of k ≡ (b.2).valign = valign-at (Some s.0) own_is ∙ alike.valign in
            let cost = element-cost b.0 b.1 b.2 b.3 in
            let most = own_low tree low w small b.1 (slice_in tree.boxes b.0 b.1 (b.3).place) in
            let fonts : font_cost x.node ≡ font_cost text.0 =
            ap (λ (z : ℤ). unsigned_abs z + unsigned_abs (line_height_in tree.styles tree.parents 256 x.node) + (unsigned_abs (ascent_in tree.styles tree.parents tree.fonts 256 x.node) + unsigned_abs (descent_in tree.styles tree.parents tree.fonts 256 x.node))) size
            ∙ ap (λ (z : ℤ). unsigned_abs (size_at text.0) + unsigned_abs z + (unsigned_abs (ascent_in tree.styles tree.parents tree.fonts 256 x.node) + unsigned_abs (descent_in tree.styles tree.parents tree.fonts 256 x.node))) line
            ∙ ap (λ (z : ℤ). unsigned_abs (size_at text.0) + unsigned_abs (line_height_in tree.styles tree.parents 256 text.0) + (unsigned_abs z + unsigned_abs (descent_in tree.styles tree.parents tree.fonts 256 x.node))) up
            ∙ ap (λ (z : ℤ). unsigned_abs (size_at text.0) + unsigned_abs (line_height_in tree.styles tree.parents 256 text.0) + (unsigned_abs (ascent_in tree.styles tree.parents tree.fonts 256 text.0) + unsigned_abs z)) down in
            let raises : raise_cost x.node (valign_of k) ≡ raise_cost text.0 (b.2).valign = ap (raise_cost x.node) valign ∙ raise-alike x.node text.0 (b.2).valign line in
            let same = b.4 in
            let all : raise_cost text.0 (b.2).valign + font_cost text.0 ≤ 2 ^ 40 = subst (λ (n : ℕ). raise_cost n (b.2).valign + font_cost n ≤ 2 ^ 40) same (omega (arith, cost, most)) in
            omega (arith, fonts, raises, all)
        by of_kind.Anon is =
            let b = element-box tree low w small x.node (tree.ok.anonymous_in_elements k x place is) in
            let none : own_style tree k ≡ None = rw (kind-at of_kind.Anon is) refl in
            let valign : valign_of k ≡ of_valign.Baseline = valign-at None none in
            let raises : raise_cost x.node (valign_of k) ≡ 0 = ap (raise_cost x.node) valign in
            let cost = element-cost b.0 b.1 b.2 b.3 in
            let most = own_low tree low w small b.1 (slice_in tree.boxes b.0 b.1 (b.3).place) in
            let all : font_cost x.node ≤ 2 ^ 40 = subst (λ (n : ℕ). font_cost n ≤ 2 ^ 40) b.4 (omega (arith, cost, most)) in
            omega (arith, raises, all)
        by of_kind.Line is = absurd (let none = (tree.ok.each k x place).no_line in let line = ap is_line is in cc)
        by of_kind.Block is = element (ap is_of_element is)
        by of_kind.Float is = element (ap is_of_element is)
        by of_kind.Atomic is = element (ap is_of_element is)
        by of_kind.Replaced is = element (ap is_of_element is)
        by of_kind.Inline is = element (ap is_of_element is)
        by of_kind.Break is = element (ap is_of_element is)
