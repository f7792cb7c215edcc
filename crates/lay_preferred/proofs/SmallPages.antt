-- The boxes of a small page are small by themselves.
use Rattle.std.proofs.Common.{◌≡◌, ℕ, zero, suc, ◌+◌, ◌-◌, ◌*◌, ◌^◌, ◌<◌, ◌≤◌, min, max, ◌==◌, ◌||◌, Bool, true, false, ℤ, pos, unsigned_abs, List, [], ◌∷◌, map, Option, Some, None, IsTrue, slice_get, refl, sym, subst, ap, ◌∙◌, arith, if◌then◌else◌}
use Rattle.std.specs.Prelude.{sum, is_some, unwrap_or}
use Rattle.std.specs.List.{AllByRecursion}
use Rattle.std.specs.Option.{option_map_or, option_and_then}
use Rattle.std.proofs.Math.Nat.{lt-div-mul-add, le_of_mul-le-mul_left, mul-le-mul_left}
use Rattle.std.proofs.lemmas.Bool.{eqb-false}
use Rattle.std.proofs.lemmas.Bool.Decides.{nat_tests}
use Rattle.std.proofs.lemmas.List.Sums.{sum_by-cons}
use Rattle.viz_base.specs.Reaches.{is_of_element, ratio, quotient_up, lengths_of, raise_extent, font_extent, intrinsic_extent, style_extent}
use Rattle.viz_base.specs.Styles.{sides_of, nothing}
use Rattle.viz_base.specs.Trees.{AreAlikeButSize, has_box, is_chars, is_line, is_replaced}
use Rattle.viz_base.specs.declared.lengths.Length.{Length}
use Rattle.viz_base.specs.declared.lengths.Length.TheVariants as of_length
use Rattle.viz_base.specs.declared.lengths.Sides.{Sides}
use Rattle.viz_base.specs.declared.styles.Style.{Style}
use Rattle.viz_base.specs.declared.trees.BoxNode.{BoxNode}
use Rattle.viz_base.specs.declared.trees.BoxTree.{BoxTree}
use Rattle.viz_base.specs.declared.trees.Kind.{Kind}
use Rattle.viz_base.specs.declared.trees.Kind.TheVariants as of_kind
use Rattle.viz_base.specs.declared.worlds.World.{World}
use Rattle.viz_base.proofs.ListLemmas.{slice_some}
use Rattle.viz_calc.specs.World.{Reading}
use Rattle.viz_calc.specs.State.{AllSmall}
use Rattle.layout_semantics.specs.DefiniteHeights.{own_height}
use Rattle.layout_semantics.specs.Blocks.{kind_of, node_of, style_of}
use Rattle.layout_semantics.specs.InlineContent.{Item, text_of, text_items}
use Rattle.layout_semantics.specs.Lengths.{used_if_absolute, own_style, own, no_sides}
use Rattle.layout_semantics.specs.Replaced.{intrinsic, by_ratio}
use Rattle.layout_laws.proofs.TreeFacts.{slice_in}
use Rattle.layout_laws.proofs.Reaching.{ratio_least}
use Rattle.lay_length.specs.Ways.{size_way}
use Rattle.lay_length.specs.Limits.{IsSmallPage}
use Rattle.lay_length.proofs.SmallExtents.{IsLowTree, IsElementOf, element-around, IsLowLength, HasLowLengths, low-tree, ext, own_low, own-is, style-of, element-box, boxed, sizes-small, used-size, way-small, by-groups, style-low}
use Rattle.lay_length.proofs.SmallFonts.{em-up}
use Rattle.lay_length.proofs.SmallNumbers.{size-fraction}
use Rattle.lay_length.proofs.SmallTexts.{IsTextAt, text-only, texts-low}
use Rattle.lay_width.specs.steps.Terms.{tentative}
use Rattle.lay_preferred.specs.Fitting.{LengthFits, SidesFit, MaximumFits, LengthsFit, WordFits, room_of, WholeTextFits, AreSmallBoxes}
use Rattle.lay_preferred.specs.steps.Outer.{edge}
use Rattle.lay_preferred.specs.steps.Parts.{width_of}

-- ---- the ratio of a replaced box

pub up-covers : (a d : ℕ) → 0 < d → a ≤ quotient_up a d * d
up-covers a d l = let q = lt-div-mul-add {a = a + (d - 1)} l in omega (arith, q, l)

pub ratio-covers : (width height : ℕ) → 0 < height → width ≤ ratio (Some (width, height)) * height
ratio-covers width height l = by (width == 0) refl (height == 0) refl
  where
    by : (a : Bool) → (width == 0) ≡ a → (b : Bool) → (height == 0) ≡ b → width ≤ (if a || b then 1 else quotient_up (max width height) (min width height)) * height
    by true e b f = let none : width ≡ 0 = grind (arith, nat_tests) in omega (arith, none)
    by false e true f = let none : height ≡ 0 = grind (arith, nat_tests) in absurd (omega (arith, l, none))
    by false e false f =
        let some : 0 < min width height = grind (arith, eqb-false width 0 e, l) in
        let up = up-covers (max width height) (min width height) some in
        let more : quotient_up (max width height) (min width height) * min width height ≤ quotient_up (max width height) (min width height) * height = mul-le-mul_left (quotient_up (max width height) (min width height)) (omega arith) in
        omega (arith, up, more)

-- a width that follows from a height is at most so many times as large
pub by_ratio-size : (h : ℤ) (width height n : ℕ) → ratio (Some (width, height)) * (unsigned_abs h + (64 * width + 64 * height)) ≤ n → 1 ≤ ratio (Some (width, height)) → unsigned_abs (by_ratio h height width) ≤ n + 1
by_ratio-size h width zero n l least =
    let once : (unsigned_abs h + (64 * width + 64 * 0)) * 1 ≤ (unsigned_abs h + (64 * width + 64 * 0)) * ratio (Some (width, 0)) = mul-le-mul_left (unsigned_abs h + (64 * width + 64 * 0)) least in
    omega (arith, l, once)
by_ratio-size h width (suc k) n l least =
    let size = size-fraction (pos width) h (suc k) (omega arith) in
    let covers = ratio-covers width (suc k) (omega arith) in
    let wide : unsigned_abs h * width ≤ unsigned_abs h * (ratio (Some (width, suc k)) * suc k) = mul-le-mul_left (unsigned_abs h) covers in
    let all : suc k * (ratio (Some (width, suc k)) * (unsigned_abs h + (64 * width + 64 * suc k))) ≤ suc k * n = mul-le-mul_left (suc k) l in
    le_of_mul-le-mul_left {k = suc k} (omega (arith, size, wide, all)) (omega arith)

pub height-size : (size : ℕ × ℕ) (v : Option ℤ) (n : ℕ) → 1 ≤ ratio (Some size) → ratio (Some size) * (unsigned_abs (unwrap_or v (pos 0)) + (64 * size.0 + 64 * size.1)) ≤ n
    → unsigned_abs (tentative size None v) ≤ n + 1
height-size size None n least l =
    let once : (0 + (64 * size.0 + 64 * size.1)) * 1 ≤ (0 + (64 * size.0 + 64 * size.1)) * ratio (Some size) = mul-le-mul_left (0 + (64 * size.0 + 64 * size.1)) least in
    omega (arith, l, once)
height-size size (Some h) n least l = by_ratio-size h size.0 size.1 n l least

module _ (tree : BoxTree) (low : IsLowTree tree) (w : World) (small : w.s ≤ 256) where
  abbrev pub IsLow : Length → Type 0
  IsLow l = IsLowLength tree low w small l

  abbrev pub HasLow : Style → Type 0
  HasLow s = HasLowLengths tree low w small s

  -- ---- lengths

  -- by its extent
  pub absolute-size : (l : Length) → unsigned_abs (unwrap_or (used_if_absolute tree w l) (pos 0)) ≤ ext tree low w small l
  absolute-size of_length.Auto = omega arith
  absolute-size (of_length.Px c) = omega arith
  absolute-size (of_length.Em k node) = em-up tree.styles tree.parents w.s 256 small k node
  absolute-size (of_length.Pct p) = omega arith

  pub length-fits : (l : Length) → IsLow l → LengthFits tree w (2 ^ 41) l
  unfolding edge
  length-fits l i =
      let most = i.extent in
      let size = absolute-size l in
      let used = used-size tree low w small l (pos 0) in
      record { way = way-small tree low w small l (pos 0) i (omega (arith, used, most)); size = omega (arith, size, most) }

  pub nothing-low : IsLow nothing
  nothing-low = record { extent = omega arith; names = refl; percentage = omega arith }

  pub auto-low : IsLow of_length.Auto
  auto-low = record { extent = omega arith; names = refl; percentage = omega arith }

  pub sides-fit : (s : Sides Length) → AllByRecursion IsLow (sides_of s) → SidesFit tree w (2 ^ 41) s
  sides-fit s a = (length-fits s.left ((a.1).1).1.0, length-fits s.right (a.1).0)

  pub maximum-fits : (o : Option Length) → ((l : Length) → o ≡ Some l → IsLow l) → MaximumFits tree w (2 ^ 41) o
  maximum-fits None f = tt
  maximum-fits (Some l) f = length-fits l (f l refl)

  -- a text has the lengths of the element that it is in
  pub alike-low : (s t : Style) → AreAlikeButSize s t → HasLow t → HasLow s
  alike-low s t a h = record {
    sizes = (
      subst IsLow (sym a.width) h.sizes.0,
      (subst IsLow (sym a.min_width) (h.sizes.1).0, (subst IsLow (sym a.height) ((h.sizes.1).1).0, (subst IsLow (sym a.min_height) (((h.sizes.1).1).1).0, tt))),
    );
    max_width = λ l e. h.max_width l (sym a.max_width ∙ e);
    max_height = λ l e. h.max_height l (sym a.max_height ∙ e);
    margin = subst (λ (m : Sides Length). AllByRecursion IsLow (sides_of m)) (sym a.margin) h.margin;
    padding = subst (λ (m : Sides Length). AllByRecursion IsLow (sides_of m)) (sym a.padding) h.padding;
    border = subst (λ (m : Sides Length). AllByRecursion IsLow (sides_of m)) (sym a.border) h.border;
  }

  -- ---- boxes

  module _ (at : ℕ) (x : BoxNode) (place : slice_get tree.boxes at ≡ Some x) where
    -- a box has no style of its own, or one with lengths that are low
    data StyleHere : Type 0 where
      none : own_style tree at ≡ None → StyleHere
      some : (s : Style) → own_style tree at ≡ Some s → HasLow s → StyleHere

    kind-at : (kind : Kind) → x.kind ≡ kind → kind_of tree at ≡ kind
    kind-at kind is = ap (λ (o : Option BoxNode). option_map_or (λ (b : BoxNode). b.kind) o of_kind.Block) place ∙ is

    style-at : (s : Style) → slice_get tree.styles x.node ≡ Some s → style_of tree at ≡ Some s
    style-at s e = ap (option_and_then (λ (b : BoxNode). slice_get tree.styles b.node)) place ∙ e

    style-here : (s : Style) → slice_get tree.styles x.node ≡ Some s → (kind : Kind) → x.kind ≡ kind → StyleHere
    style-here s e kind is = by kind is
      where
        element : is_of_element x.kind ≡ true → HasLow s
        element t = style-low tree low w small at x s (record { place = place; style = e; element = t })

        by : (kind : Kind) → x.kind ≡ kind → StyleHere
        by of_kind.Chars is =
            let text = element-around tree.boxes (slice_get tree.parents x.node) (tree.ok.texts_in_elements at x place is) in
            let b = element-box tree low w small text.0 text.2 in
            let there = ap (slice_get tree.styles) (sym b.4) ∙ (b.3).style in
            let alike = tree.ok.texts_alike at x text.0 s b.2 place (ap is_chars is) text.1 e there in
            StyleHere.some s (rw (kind-at of_kind.Chars is) (style-at s e)) (alike-low s b.2 alike (style-low tree low w small b.0 b.1 b.2 b.3))
        by of_kind.Anon is = StyleHere.none (rw (kind-at of_kind.Anon is) refl)
        by of_kind.Line is = absurd (let never = (tree.ok.each at x place).no_line in let line = ap is_line is in cc)
        by of_kind.Block is = StyleHere.some s (rw (kind-at of_kind.Block is) (style-at s e)) (element (ap is_of_element is))
        by of_kind.Float is = StyleHere.some s (rw (kind-at of_kind.Float is) (style-at s e)) (element (ap is_of_element is))
        by of_kind.Atomic is = StyleHere.some s (rw (kind-at of_kind.Atomic is) (style-at s e)) (element (ap is_of_element is))
        by of_kind.Replaced is = StyleHere.some s (rw (kind-at of_kind.Replaced is) (style-at s e)) (element (ap is_of_element is))
        by of_kind.Inline is = StyleHere.some s (rw (kind-at of_kind.Inline is) (style-at s e)) (element (ap is_of_element is))
        by of_kind.Break is = StyleHere.some s (rw (kind-at of_kind.Break is) (style-at s e)) (element (ap is_of_element is))

    -- ---- the width that follows from the height of a replaced box

    replaced-kind : (kind : Kind) → is_replaced kind ≡ true → kind ≡ of_kind.Replaced
    replaced-kind of_kind.Replaced t = refl
    replaced-kind of_kind.Block t = absurd (cc)
    replaced-kind of_kind.Anon t = absurd (cc)
    replaced-kind of_kind.Float t = absurd (cc)
    replaced-kind of_kind.Atomic t = absurd (cc)
    replaced-kind of_kind.Inline t = absurd (cc)
    replaced-kind of_kind.Chars t = absurd (cc)
    replaced-kind of_kind.Line t = absurd (cc)
    replaced-kind of_kind.Break t = absurd (cc)

    intrinsic-is : intrinsic tree at ≡ unwrap_or x.size (0, 0)
    intrinsic-is = ap (λ (o : Option BoxNode). unwrap_or (option_and_then (λ (b : BoxNode). b.size) o) (0, 0)) place

    height-fits : unsigned_abs (tentative (intrinsic tree at) None (used_if_absolute tree w (own_height tree at))) ≤ 2 ^ 41
    height-fits = subst (λ (size : ℕ × ℕ). unsigned_abs (tentative size None (used_if_absolute tree w (own_height tree at))) ≤ 2 ^ 41) (sym intrinsic-is) (by x.size refl)
      where
        nothing-wide : (v : Option ℤ) → unsigned_abs (tentative (0, 0) None v) ≤ 2 ^ 41
        nothing-wide None = omega arith
        nothing-wide (Some h) = omega arith

        by : (o : Option (ℕ × ℕ)) → x.size ≡ o → unsigned_abs (tentative (unwrap_or x.size (0, 0)) None (used_if_absolute tree w (own_height tree at))) ≤ 2 ^ 41
        by None e =
            subst (λ (o : Option (ℕ × ℕ)). unsigned_abs (tentative (unwrap_or o (0, 0)) None (used_if_absolute tree w (own_height tree at))) ≤ 2 ^ 41) (sym e)
            (nothing-wide (used_if_absolute tree w (own_height tree at)))
        by (Some size) e =
            let kind : x.kind ≡ of_kind.Replaced = replaced-kind x.kind (sym (tree.ok.each at x place).size ∙ ap (λ (o : Option (ℕ × ℕ)). is_some o) e) in
            let style = style-of tree low w small at x place in
            let s = style.0 in
            let own_is : own_style tree at ≡ Some s = rw (kind-at of_kind.Replaced kind) (style-at s style.1) in
            let b : IsElementOf tree at x s = record { place = place; style = style.1; element = ap is_of_element kind } in
            let total = own-is tree low w small at x s b in
            let most = own_low tree low w small x (slice_in tree.boxes at x place) in
            let groups = by-groups tree low w small (ext tree low w small) s in
            let inner : ℕ = sum (map (ext tree low w small) (lengths_of s)) + raise_extent tree.styles tree.parents tree.fonts x.node s.valign + font_extent tree.styles tree.parents tree.fonts x.node + intrinsic_extent (Some size) in
            let same : style_extent tree.styles tree.parents tree.fonts x s ≡ ratio (Some size) * inner =
            ap (λ (o : Option (ℕ × ℕ)). ratio o * (sum (map (ext tree low w small) (lengths_of s)) + raise_extent tree.styles tree.parents tree.fonts x.node s.valign + font_extent tree.styles tree.parents tree.fonts x.node + intrinsic_extent o)) e in
            let height : own_height tree at ≡ s.height = ap (λ (o : Option Style). option_map_or (λ (z : Style). z.height) o of_length.Auto) own_is in
            let size_of = absolute-size s.height in
            let part : unsigned_abs (unwrap_or (used_if_absolute tree w s.height) (pos 0)) + (64 * size.0 + 64 * size.1) ≤ inner = omega (arith, groups, size_of) in
            let grown : ratio (Some size) * (unsigned_abs (unwrap_or (used_if_absolute tree w s.height) (pos 0)) + (64 * size.0 + 64 * size.1)) ≤ ratio (Some size) * inner = mul-le-mul_left (ratio (Some size)) part in
            let held = height-size size (used_if_absolute tree w s.height) (2 ^ 40) (ratio_least (Some size)) (omega (arith, grown, total, most, same)) in
            subst (λ (o : Option (ℕ × ℕ)). unsigned_abs (tentative (unwrap_or o (0, 0)) None (used_if_absolute tree w (own_height tree at))) ≤ 2 ^ 41) (sym e)
            (subst (λ l. unsigned_abs (tentative size None (used_if_absolute tree w l)) ≤ 2 ^ 41) (sym height) (omega (arith, held)))

    -- ---- all lengths

    at-own : {A : Type 0} (o : Option Style) (e : own_style tree at ≡ o) (f : Style → A) (d : A) (P : A → Type 0) → P (option_map_or f o d) → P (own tree at f d)
    at-own o e f d P p = subst (λ (q : Option Style). P (option_map_or f q d)) (sym e) p

    no-sides-fit : SidesFit tree w (2 ^ 41) no_sides
    no-sides-fit = (length-fits nothing nothing-low, length-fits nothing nothing-low)

    lengths-fit : LengthsFit tree w (2 ^ 41) at
    lengths-fit = let style = style-of tree low w small at x place in by (style-here style.0 style.1 x.kind refl)
      where
        by : StyleHere → LengthsFit tree w (2 ^ 41) at
        by (StyleHere.none e) = record {
          margin = at-own None e (λ (s : Style). s.margin) no_sides (SidesFit tree w (2 ^ 41)) no-sides-fit;
          border = at-own None e (λ (s : Style). s.border) no_sides (SidesFit tree w (2 ^ 41)) no-sides-fit;
          padding = at-own None e (λ (s : Style). s.padding) no_sides (SidesFit tree w (2 ^ 41)) no-sides-fit;
          width = at-own None e (λ (s : Style). s.width) of_length.Auto (LengthFits tree w (2 ^ 41)) (length-fits of_length.Auto auto-low);
          least = at-own None e (λ (s : Style). s.min_width) nothing (LengthFits tree w (2 ^ 41)) (length-fits nothing nothing-low);
          greatest = at-own None e (λ (s : Style). s.max_width) None (MaximumFits tree w (2 ^ 41)) tt;
          height = at-own None e (λ (s : Style). s.height) of_length.Auto (LengthFits tree w (2 ^ 41)) (length-fits of_length.Auto auto-low);
          by_height = height-fits;
        }
        by (StyleHere.some s e h) = record {
          margin = at-own (Some s) e (λ (z : Style). z.margin) no_sides (SidesFit tree w (2 ^ 41)) (sides-fit s.margin h.margin);
          border = at-own (Some s) e (λ (z : Style). z.border) no_sides (SidesFit tree w (2 ^ 41)) (sides-fit s.border h.border);
          padding = at-own (Some s) e (λ (z : Style). z.padding) no_sides (SidesFit tree w (2 ^ 41)) (sides-fit s.padding h.padding);
          width = at-own (Some s) e (λ (z : Style). z.width) of_length.Auto (LengthFits tree w (2 ^ 41)) (length-fits s.width h.sizes.0);
          least = at-own (Some s) e (λ (z : Style). z.min_width) nothing (LengthFits tree w (2 ^ 41)) (length-fits s.min_width (h.sizes.1).0);
          greatest = at-own (Some s) e (λ (z : Style). z.max_width) None (MaximumFits tree w (2 ^ 41)) (maximum-fits s.max_width h.max_width);
          height = at-own (Some s) e (λ (z : Style). z.height) of_length.Auto (LengthFits tree w (2 ^ 41)) (length-fits s.height ((h.sizes.1).1).0);
          by_height = height-fits;
        }

    -- ---- texts

    sizes-fit : AllSmall (size_way tree w (node_of tree at))
    sizes-fit =
        let node = ap (λ (o : Option BoxNode). option_map_or (λ (b : BoxNode). b.node) o 0) place in
        sizes-small tree low w small (suc (node_of tree at)) (node_of tree at) (subst (λ n. IsTrue (has_box tree.boxes n)) (sym node) (boxed tree low w small at x place))

    text-fits : WholeTextFits tree w (2 ^ 41) at
    unfolding width_of
    text-fits = record { words = words (text_items at (text_of tree at)) (text-only at (text_of tree at)) size; size = size }
      where
        room : Item → ℕ
        room = room_of tree w (λ (k : ℕ). 0)

        size : sum (map (room_of tree w (λ (k : ℕ). 0)) (text_items at (text_of tree at))) ≤ 2 ^ 41
        size = texts-low tree low w small at x (room_of tree w (λ (k : ℕ). 0)) place (λ t. refl) refl

        one : (i : Item) → IsTextAt at i → room_of tree w (λ (k : ℕ). 0) i ≤ 2 ^ 41 → WordFits tree w i
        one _ (IsTextAt.a_word text) l = (omega (arith, l), sizes-fit)
        one _ IsTextAt.a_space l = (omega (arith, l), sizes-fit)

        words : (items : List Item) → AllByRecursion (IsTextAt at) items → sum (map (room_of tree w (λ (k : ℕ). 0)) items) ≤ 2 ^ 41 → AllByRecursion (WordFits tree w) items
        words [] a l = tt
        words (i ∷ items) a l =
            let all = sum_by-cons (λ (n : ℕ). n) (room_of tree w (λ (k : ℕ). 0) i) (map (room_of tree w (λ (k : ℕ). 0)) items) in
            (one i a.0 (omega (arith, all, l)), words items a.1 (omega (arith, all, l)))

pub small-boxes : (tree : BoxTree) → IsSmallPage tree → (is_open : Reading → Bool) → ((e : Reading) → IsTrue (is_open e) → e.world.s ≤ 256) → AreSmallBoxes tree is_open
small-boxes tree page is_open sized = record {
  few_boxes = page.few_boxes;
  lengths = λ e o at l. let x = slice_some tree.boxes at l in lengths-fit tree (low-tree tree page) e.world (sized e o) at x.0 x.1;
  texts = λ e o at l. let x = slice_some tree.boxes at l in text-fits tree (low-tree tree page) e.world (sized e o) at x.0 x.1;
}
