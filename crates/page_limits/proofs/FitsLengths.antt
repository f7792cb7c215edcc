-- The numbers on the way to each length of a box of a page fit, in containing blocks that are not too wide.
use Rattle.std.proofs.Common.{◌≡◌, ℕ, ◌^◌, ◌≤◌, true, false, ℤ, unsigned_abs, Option, Some, None, slice_get, refl, sym, ap, ◌∙◌, subst, arith}
use Rattle.std.specs.List.{AllByRecursion}
use Rattle.std.specs.Option.{option_map_or}
use Rattle.std.proofs.Math.Nat.{mul-le-mul}
use Rattle.viz_base.specs.Reaches.{is_of_element}
use Rattle.viz_base.specs.Styles.{sides_of, nothing}
use Rattle.viz_base.specs.Trees.{is_fragmented, is_line}
use Rattle.viz_base.specs.declared.lengths.Length.{Length}
use Rattle.viz_base.specs.declared.lengths.Length.TheVariants as of_length
use Rattle.viz_base.specs.declared.styles.Style.{Style}
use Rattle.viz_base.specs.declared.trees.BoxNode.{BoxNode}
use Rattle.viz_base.specs.declared.trees.BoxTree.{BoxTree}
use Rattle.viz_base.specs.declared.trees.Kind.{Kind}
use Rattle.viz_base.specs.declared.trees.Kind.TheVariants as of_kind
use Rattle.viz_base.specs.declared.worlds.World.{World}
use Rattle.layout_semantics.specs.Lengths.{own_style, no_sides}
use Rattle.lay_width.specs.Fitting.{UsedFits, MostFits}
use Rattle.lay_length.proofs.SmallExtents.{IsLowTree, IsElementOf, IsLowLength, style-of, style-low, used-size, way-small}
use Rattle.page_limits.specs.Boxes.{IsWhole}
use Rattle.page_limits.proofs.WidthsCosts.{kind-at, own-style-at, no-style-at}
use Rattle.page_limits.proofs.WidthsTerms.{margins_in, paddings_in, borders_in, width_in, min_width_in, height_in, min_height_in}

abbrev pub max_width_in : Option Style → Option Length
max_width_in o = option_map_or (λ (s : Style). s.max_width) o None

abbrev pub max_height_in : Option Style → Option Length
max_height_in o = option_map_or (λ (s : Style). s.max_height) o None

module _ (tree : BoxTree) (low : IsLowTree tree) (w : World) (small : w.s ≤ 256) where
  abbrev pub IsLow : Length → Type 0
  IsLow l = IsLowLength tree low w small l

  pub used-fits : (l : Length) (cb : ℤ) → IsLow l → unsigned_abs cb ≤ 2 ^ 50 → UsedFits tree w l cb
  used-fits l cb i near =
      let size = used-size tree low w small l cb in
      let product = mul-le-mul i.percentage near in
      let extent = i.extent in
      way-small tree low w small l cb i (omega (arith, size, product, extent))

  pub most-fits : (o : Option Length) (cb : ℤ) → ((l : Length) → o ≡ Some l → IsLow l) → unsigned_abs cb ≤ 2 ^ 50 → MostFits tree w o cb
  most-fits None cb f near = tt
  most-fits (Some l) cb f near = used-fits l cb (f l refl) near

  -- ---- the lengths that the style of a box names

  pub record AreLengthsLow (style : Option Style) : Type 0 where
    pub margin : AllByRecursion IsLow (sides_of (margins_in style))
    pub padding : AllByRecursion IsLow (sides_of (paddings_in style))
    pub border : AllByRecursion IsLow (sides_of (borders_in style))
    pub width : IsLow (width_in style)
    pub min_width : IsLow (min_width_in style)
    pub height : IsLow (height_in style)
    pub min_height : IsLow (min_height_in style)
    pub max_width : (l : Length) → max_width_in style ≡ Some l → IsLow l
    pub max_height : (l : Length) → max_height_in style ≡ Some l → IsLow l

  style-lengths : (k : ℕ) (x : BoxNode) (s : Style) → IsElementOf tree k x s → AreLengthsLow (Some s)
  style-lengths k x s b =
      let lows = style-low tree low w small k x s b in
      record {
        margin = lows.margin;
        padding = lows.padding;
        border = lows.border;
        width = lows.sizes.0;
        min_width = lows.sizes.1.0;
        height = lows.sizes.1.1.0;
        min_height = lows.sizes.1.1.1.0;
        max_width = lows.max_width;
        max_height = lows.max_height;
      }

  nothing-low : IsLow nothing
  nothing-low = record { extent = omega arith; names = refl; percentage = omega arith }

  auto-low : IsLow of_length.Auto
  auto-low = record { extent = omega arith; names = refl; percentage = omega arith }

  no-sides-low : AllByRecursion IsLow (sides_of no_sides)
  no-sides-low = (nothing-low, (nothing-low, (nothing-low, (nothing-low, tt))))

  -- of an anonymous box
  no-lengths : AreLengthsLow None
  no-lengths = record {
    margin = no-sides-low;
    padding = no-sides-low;
    border = no-sides-low;
    width = auto-low;
    min_width = nothing-low;
    height = auto-low;
    min_height = nothing-low;
    max_width = λ l e. absurd (cc);
    max_height = λ l e. absurd (cc);
  }

  pub whole-lengths : (k : ℕ) (x : BoxNode) → slice_get tree.boxes k ≡ Some x → IsWhole tree k → AreLengthsLow (own_style tree k)
  whole-lengths k x place whole = by x.kind refl (sym (ap is_fragmented (kind-at tree k x place)) ∙ whole)
    where
      element : is_of_element x.kind ≡ true → AreLengthsLow (own_style tree k)
      element is =
          let s = style-of tree low w small k x place in
          let b : IsElementOf tree k x s.0 = record { place = place; style = s.1; element = is } in
          subst AreLengthsLow (sym (own-style-at tree k x s.0 b)) (style-lengths k x s.0 b)

      by : (kind : Kind) → x.kind ≡ kind → is_fragmented kind ≡ false → AreLengthsLow (own_style tree k)
      by of_kind.Anon e f = subst AreLengthsLow (sym (no-style-at tree k (kind-at tree k x place ∙ e))) no-lengths
      by of_kind.Block e f = element (ap is_of_element e)
      by of_kind.Float e f = element (ap is_of_element e)
      by of_kind.Atomic e f = element (ap is_of_element e)
      by of_kind.Replaced e f = element (ap is_of_element e)
      by of_kind.Line e f = absurd (let never = (tree.ok.each k x place).no_line in let line = ap is_line e in cc)
      by of_kind.Inline e f = absurd (cc)
      by of_kind.Chars e f = absurd (cc)
      by of_kind.Break e f = absurd (cc)
