-- What is computed of the edges of a box in lines fits, for each number, of a box or not, where the lines are not too wide.
use Rattle.std.proofs.Common.{◌≡◌, ℕ, ◌^◌, ◌≤◌, Bool, true, false, ℤ, pos, ◌+ℤ◌, unsigned_abs, List, Option, Some, None, slice_get, refl, sym, ap, ◌∙◌, subst, arith}
use Rattle.std.specs.Prelude.{cond}
use Rattle.std.specs.List.{AllByRecursion}
use Rattle.std.specs.Option.{option_and_then}
use Rattle.std.proofs.Math.Nat.{mul-le-mul}
use Rattle.viz_base.specs.Reaches.{is_of_element}
use Rattle.viz_base.specs.Styles.{sides_of, nothing}
use Rattle.viz_base.specs.Trees.{AreAlikeButSize, is_chars, is_line}
use Rattle.viz_base.specs.declared.layouts.Band.{Band}
use Rattle.viz_base.specs.declared.layouts.Inner.{Inner}
use Rattle.viz_base.specs.declared.lengths.Length.{Length}
use Rattle.viz_base.specs.declared.lengths.Sides.{Sides}
use Rattle.viz_base.specs.declared.styles.Style.{Style}
use Rattle.viz_base.specs.declared.trees.BoxNode.{BoxNode}
use Rattle.viz_base.specs.declared.trees.BoxTree.{BoxTree}
use Rattle.viz_base.specs.declared.trees.Kind.{Kind}
use Rattle.viz_base.specs.declared.trees.Kind.TheVariants as of_kind
use Rattle.viz_base.specs.declared.worlds.World.{World}
use Rattle.layout_semantics.specs.Blocks.{kind_of, style_of}
use Rattle.layout_semantics.specs.Lengths.{used, own_style, no_sides}
use Rattle.layout_semantics.specs.LineFilling.{band_width}
use Rattle.layout_semantics.specs.LineHeights.{InlineContext}
use Rattle.lay_line.specs.Fits.{EdgesFit, SideFits}
use Rattle.lay_line.specs.LineFits.{EdgesWithin, QuadWithin}
use Rattle.lay_line.specs.steps.Entries.{edges_in}
use Rattle.lay_length.proofs.SmallExtents.{IsLowTree, IsElementOf, element-around, element-box, style-low, used-size}
use Rattle.lay_length.proofs.SmallNumbers.{size-+}
use Rattle.page_limits.proofs.WidthsCosts.{kind-at, no-style-at}
use Rattle.page_limits.proofs.WidthsTerms.{margins_in, paddings_in, borders_in}
use Rattle.page_limits.proofs.FitsLengths.{IsLow, used-fits}

-- ---- the style of a box

-- is that of its node
pub own-style-is : (tree : BoxTree) (k : ℕ) (s : Style) → own_style tree k ≡ Some s → style_of tree k ≡ Some s
own-style-is tree k s e = by (kind_of tree k) e
  where
    own_by : Kind → Option Style
    own_by of_kind.Anon = None
    own_by _ = style_of tree k

    by : (kind : Kind) → own_by kind ≡ Some s → style_of tree k ≡ Some s
    by of_kind.Anon e = absurd (cc)
    by of_kind.Block e = e
    by of_kind.Float e = e
    by of_kind.Atomic e = e
    by of_kind.Replaced e = e
    by of_kind.Inline e = e
    by of_kind.Chars e = e
    by of_kind.Line e = e
    by of_kind.Break e = e

-- there is none without a box
pub no-box-style : (tree : BoxTree) (k : ℕ) (s : Style) → slice_get tree.boxes k ≡ None → own_style tree k ≡ Some s → ⊥
no-box-style tree k s e f =
    let none : style_of tree k ≡ None = ap (option_and_then (λ (b : BoxNode). slice_get tree.styles b.node)) e in
    let some = own-style-is tree k s f in
    cc

pub node-style : (tree : BoxTree) (k : ℕ) (x : BoxNode) (s : Style) → slice_get tree.boxes k ≡ Some x → own_style tree k ≡ Some s → slice_get tree.styles x.node ≡ Some s
node-style tree k x s e f = sym (ap (option_and_then (λ (b : BoxNode). slice_get tree.styles b.node)) e) ∙ own-style-is tree k s f

module _ (tree : BoxTree) (low : IsLowTree tree) (w : World) (small : w.s ≤ 256) where
  abbrev AreLow : Sides Length → Type 0
  AreLow sides = AllByRecursion (IsLow tree low w small) (sides_of sides)

  -- the edges that a style names
  record HasLowEdges (style : Option Style) : Type 0 where
    margin : AreLow (margins_in style)
    padding : AreLow (paddings_in style)
    border : AreLow (borders_in style)

  no-edges : HasLowEdges None
  no-edges = record { margin = none; padding = none; border = none }
    where
      zero-low : IsLow tree low w small nothing
      zero-low = record { extent = omega arith; names = refl; percentage = omega arith }

      none : AreLow no_sides
      none = (zero-low, (zero-low, (zero-low, (zero-low, tt))))

  element-edges : (k : ℕ) (x : BoxNode) (s : Style) → IsElementOf tree k x s → HasLowEdges (Some s)
  element-edges k x s b = let lows = style-low tree low w small k x s b in record { margin = lows.margin; padding = lows.padding; border = lows.border }

  alike-edges : (s t : Style) → AreAlikeButSize s t → HasLowEdges (Some t) → HasLowEdges (Some s)
  alike-edges s t a h = record { margin = subst AreLow (sym a.margin) h.margin; padding = subst AreLow (sym a.padding) h.padding; border = subst AreLow (sym a.border) h.border }

  edges-low : (at : ℕ) → HasLowEdges (own_style tree at)
  edges-low at = by (slice_get tree.boxes at) refl (own_style tree at) refl
    where
      of-box : (x : BoxNode) (s : Style) → slice_get tree.boxes at ≡ Some x → own_style tree at ≡ Some s → HasLowEdges (Some s)
      of-box x s e f = by x.kind refl
        where
          there : slice_get tree.styles x.node ≡ Some s
          there = node-style tree at x s e f

          element : is_of_element x.kind ≡ true → HasLowEdges (Some s)
          element t = element-edges at x s (record { place = e; style = there; element = t })

          by : (kind : Kind) → x.kind ≡ kind → HasLowEdges (Some s)
          by of_kind.Chars is =
              let text = element-around tree.boxes (slice_get tree.parents x.node) (tree.ok.texts_in_elements at x e is) in
              let b = element-box tree low w small text.0 text.2 in
              let other = ap (slice_get tree.styles) (sym b.4) ∙ (b.3).style in
              alike-edges s b.2 (tree.ok.texts_alike at x text.0 s b.2 e (ap is_chars is) text.1 there other) (element-edges b.0 b.1 b.2 b.3)
          by of_kind.Anon is = absurd (let none = no-style-at tree at (kind-at tree at x e ∙ is) in cc)
          by of_kind.Line is = absurd (let never = (tree.ok.each at x e).no_line in let line = ap is_line is in cc)
          by of_kind.Block is = element (ap is_of_element is)
          by of_kind.Float is = element (ap is_of_element is)
          by of_kind.Atomic is = element (ap is_of_element is)
          by of_kind.Replaced is = element (ap is_of_element is)
          by of_kind.Inline is = element (ap is_of_element is)
          by of_kind.Break is = element (ap is_of_element is)

      by : (o : Option BoxNode) → slice_get tree.boxes at ≡ o → (p : Option Style) → own_style tree at ≡ p → HasLowEdges (own_style tree at)
      by o e None f = subst HasLowEdges (sym f) no-edges
      by None e (Some s) f = absurd (no-box-style tree at s e f)
      by (Some x) e (Some s) f = subst HasLowEdges (sym f) (of-box x s e f)

  -- ---- in lines

  used-low : (l : Length) (cb : ℤ) → IsLow tree low w small l → unsigned_abs cb ≤ 2 ^ 50 → unsigned_abs (used tree w l cb) ≤ 2 ^ 64
  used-low l cb i near =
      let size = used-size tree low w small l cb in
      let product = mul-le-mul i.percentage near in
      let extent = i.extent in
      omega (arith, size, product, extent)

  module _ (container : ℕ) (inner : List (Option (Inner ℤ))) (cb : Band ℤ) (near : unsigned_abs (band_width cb) ≤ 2 ^ 50) where
    abbrev c : InlineContext
    c = record { tree = tree; world = w; container = container; inner = inner; cb = cb }

    -- where a fragment has its edges
    pub record AreSidesFit (sides : Sides Length) : Type 0 where
      pub fit : EdgesFit c sides
      pub within : EdgesWithin c sides

    within-by : (starts ends : Bool) (sides : Sides Length) → AreLow sides → QuadWithin (2 ^ 90) (edges_in c starts ends sides)
    unfolding edges_in
    within-by starts ends sides a =
        let top = used-low sides.top (band_width cb) a.0 near in
        let right = used-low sides.right (band_width cb) a.1.0 near in
        let bottom = used-low sides.bottom (band_width cb) a.1.1.0 near in
        let left = used-low sides.left (band_width cb) a.1.1.1.0 near in
        (if-there starts (used tree w sides.left (band_width cb)) left, (omega (arith, top), (if-there ends (used tree w sides.right (band_width cb)) right, (omega (arith, bottom), tt))))
      where
        if-there : (b : Bool) (z : ℤ) → unsigned_abs z ≤ 2 ^ 64 → unsigned_abs (cond b z (pos 0)) ≤ 2 ^ 90
        if-there true z l = omega (arith, l)
        if-there false z l = omega arith

    sides-fit : (sides : Sides Length) → AreLow sides → AreSidesFit sides
    sides-fit sides a = record {
      fit = (
        (omega (arith, near), (omega arith, tt)),
        (
          used-fits tree low w small sides.left (band_width cb) a.1.1.1.0 near,
          (used-fits tree low w small sides.top (band_width cb) a.0 near, (used-fits tree low w small sides.right (band_width cb) a.1.0 near, used-fits tree low w small sides.bottom (band_width cb) a.1.1.0 near)),
        ),
      );
      within = λ starts ends. within-by starts ends sides a;
    }

    pub margins-fit : (at : ℕ) → AreSidesFit (margins_in (own_style tree at))
    margins-fit at = sides-fit (margins_in (own_style tree at)) (edges-low at).margin

    pub borders-fit : (at : ℕ) → AreSidesFit (borders_in (own_style tree at))
    borders-fit at = sides-fit (borders_in (own_style tree at)) (edges-low at).border

    pub paddings-fit : (at : ℕ) → AreSidesFit (paddings_in (own_style tree at))
    paddings-fit at = sides-fit (paddings_in (own_style tree at)) (edges-low at).padding

    -- what a side of an inline box takes
    abbrev side_of : Length → Length → Length → ℤ
    side_of margin border padding = used tree w margin (band_width cb) +ℤ (used tree w border (band_width cb) +ℤ (used tree w padding (band_width cb) +ℤ pos 0))

    pub record IsSideFit (margin border padding : Length) : Type 0 where
      pub fit : SideFits tree w (band_width cb) margin border padding
      pub size : unsigned_abs (side_of margin border padding) ≤ 2 ^ 72

    side-fits : (margin border padding : Length) → IsLow tree low w small margin → IsLow tree low w small border → IsLow tree low w small padding → IsSideFit margin border padding
    side-fits margin border padding m b p =
        let ml = used-low margin (band_width cb) m near in
        let bl = used-low border (band_width cb) b near in
        let pl = used-low padding (band_width cb) p near in
        let one = size-+ (used tree w padding (band_width cb)) (pos 0) in
        let two = size-+ (used tree w border (band_width cb)) (used tree w padding (band_width cb) +ℤ pos 0) in
        let all = size-+ (used tree w margin (band_width cb)) (used tree w border (band_width cb) +ℤ (used tree w padding (band_width cb) +ℤ pos 0)) in
        record {
          fit = (
            (omega (arith, near), (omega arith, tt)),
            (
              used-fits tree low w small padding (band_width cb) p near,
              (
                used-fits tree low w small border (band_width cb) b near,
                (used-fits tree low w small margin (band_width cb) m near, (omega (arith, one, pl), (omega (arith, one, two, bl, pl), (omega (arith, one, two, all, ml, bl, pl), tt)))),
              ),
            ),
          );
          size = omega (arith, one, two, all, ml, bl, pl);
        }

    pub start-fits : (at : ℕ) → IsSideFit (margins_in (own_style tree at)).left (borders_in (own_style tree at)).left (paddings_in (own_style tree at)).left
    start-fits at =
        let e = edges-low at in
        side-fits (margins_in (own_style tree at)).left (borders_in (own_style tree at)).left (paddings_in (own_style tree at)).left e.margin.1.1.1.0 e.border.1.1.1.0 e.padding.1.1.1.0

    pub finish-fits : (at : ℕ) → IsSideFit (margins_in (own_style tree at)).right (borders_in (own_style tree at)).right (paddings_in (own_style tree at)).right
    finish-fits at =
        let e = edges-low at in
        side-fits (margins_in (own_style tree at)).right (borders_in (own_style tree at)).right (paddings_in (own_style tree at)).right e.margin.1.0 e.border.1.0 e.padding.1.0
