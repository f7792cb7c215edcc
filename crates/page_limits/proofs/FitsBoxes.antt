-- The numbers on the way to the terms and the size of a box of a page fit, by its placing, and those to its margins and to what is in it.
use Rattle.std.proofs.Common.{◌≡◌, ℕ, ◌+◌, ◌*◌, ◌^◌, ◌≤◌, ℤ, ◌+ℤ◌, unsigned_abs, [], ◌∷◌, Option, Some, None, refl, ap, ◌∙◌, subst, sym, arith}
use Rattle.std.specs.Prelude.{unwrap_or}
use Rattle.std.specs.Option.{option_and_then}
use Rattle.std.proofs.Math.Nat.{mul-le-mul, mul-le-mul_left}
use Rattle.viz_base.specs.Reaches.{ratio, intrinsic_extent}
use Rattle.viz_base.specs.declared.layouts.Band.{Band}
use Rattle.viz_base.specs.declared.layouts.Widths.{Widths}
use Rattle.viz_base.specs.declared.lengths.Length.{Length}
use Rattle.viz_base.specs.declared.lengths.Length.TheVariants as of_length
use Rattle.viz_base.specs.declared.trees.BoxNode.{BoxNode}
use Rattle.viz_base.specs.declared.trees.BoxTree.{BoxTree}
use Rattle.viz_base.specs.declared.worlds.World.{World}
use Rattle.viz_calc.specs.State.{AllSmall}
use Rattle.layout_semantics.specs.DefiniteHeights.{given_height}
use Rattle.layout_semantics.specs.FlowBoxes.{inline_size, room}
use Rattle.layout_semantics.specs.Horizontal.{Placing, block_flow, shrunk, replaced_block, replaced_shrunk, placing_of, flow_widths}
use Rattle.layout_semantics.specs.Lengths.{own_style, margins}
use Rattle.layout_semantics.specs.Order.{IsOnPage}
use Rattle.layout_semantics.specs.Preferred.{preferred}
use Rattle.layout_semantics.specs.Replaced.{intrinsic, by_ratio, replaced_size}
use Rattle.layout_laws.proofs.Reaching.{ratio_least}
use Rattle.lay_width.specs.Fitting.{UsedFits, VerticalsFit, in_block, WidthsFit, BlockFits, ReplacedFits, TentativeFits, RatioFits}
use Rattle.lay_margin.specs.Fitting.{BoxFits, InsideFits, MarginFits, content_way}
use Rattle.lay_length.proofs.SmallNumbers.{size-+, size--}
use Rattle.page_limits.specs.Boxes.{AreWidthsSmall, IsWhole}
use Rattle.page_limits.proofs.TermsWithin.{box-small}
use Rattle.page_limits.specs.InlineSizes.{AreWidthsBounded}
use Rattle.page_limits.proofs.WidthsCosts.{by_height}
use Rattle.page_limits.proofs.WidthsTerms.{far, height_in, width_in}
use Rattle.page_limits.proofs.WidthsLevels.{IsFarPage, reach_of, reach-low}
use Rattle.page_limits.proofs.WidthsPage.{IsBoxOn, whole-on, by_height-bounded, same-ratio, same-extent}
use Rattle.page_limits.proofs.WidthsSmall.{whole-bounded}
use Rattle.page_limits.proofs.HeightsBoxes.{by_width-size}
use Rattle.page_limits.proofs.PageSmall.{properties-small}
use Rattle.page_limits.proofs.FitsLengths.{IsLow, AreLengthsLow}
use Rattle.page_limits.proofs.FitsInlineSizes.{length-fits, edges-fit, verticals-fit, hold-fits, fixed-block-fits, block-fits, shrunk-fits}
use Rattle.page_limits.proofs.FitsHeights.{lengths-of, given-fits}

-- ---- numbers

-- what goes from a viewport to its reach goes no more than so many times as far
ratio-most : (around r g o reach : ℕ) → 2097152 ≤ around → 100000000 ≤ g → around * r * g + 100000000 * o ≤ 100000000 * reach → reach ≤ 2 ^ 40 → r ≤ 2 ^ 19
ratio-most around r g o reach far part goes most =
    let a : r * 2097152 ≤ r * around = mul-le-mul_left r far in
    let b : (r * around) * 100000000 ≤ (r * around) * g = mul-le-mul_left (r * around) part in
    omega (arith, a, b, goes, most)

-- from the margin edge of a box to the edges of its content
content-fits : (left : ℤ) (x : Widths ℤ) → unsigned_abs left ≤ 2 ^ 90 → AreWidthsSmall (2 ^ 42) x → AllSmall (content_way left x)
content-fits left x l s =
    let ml = s.margin_left in
    let bl = s.border_left in
    let pl = s.padding_left in
    let co = s.content in
    let s1 = size-+ left x.margin_left in
    let s2 = size-+ (left +ℤ x.margin_left) x.border_left in
    let s3 = size-+ (left +ℤ x.margin_left +ℤ x.border_left) x.padding_left in
    let s4 = size-+ (left +ℤ x.margin_left +ℤ x.border_left +ℤ x.padding_left) x.content in
    (omega arith, (omega arith, (omega arith, (omega arith, tt))))

module _ (tree : BoxTree) (page : IsFarPage tree) (w : World) (small : w.s ≤ 256) (narrow : w.w ≤ 16384) (flat : w.h ≤ 16384) where
  -- ---- the ratio of a replaced box

  module _ (k : ℕ) (b : IsBoxOn tree page w small narrow flat k) where
    -- of an intrinsic size neither side is so many times as long as the other
    ratio-low : ratio b.x.size ≤ 2 ^ 19
    ratio-low =
        let all = b.p.reaches.all in
        ratio-most b.p.around_it (ratio b.x.size) b.v.g b.v.o (reach_of tree b.x b.p.around_it) (omega (arith, all)) b.v.terms.part b.v.goes (reach-low tree page k b.p.around_it b.x b.place b.p.reaches)

    extent-low : intrinsic_extent b.x.size ≤ 2 ^ 40
    extent-low =
        let goes = b.v.goes in
        let most = reach-low tree page k b.p.around_it b.x b.place b.p.reaches in
        let tall = b.v.tall in
        let some = ratio_least b.x.size in
        let inner : ℕ = far tree page.low w small (height_in (own_style tree k)) + intrinsic_extent b.x.size in
        let once : inner * 1 ≤ inner * ratio b.x.size = mul-le-mul_left inner some in
        omega (arith, goes, most, tall, once)

    by_width-low : (v : ℤ) → unsigned_abs v ≤ 2 ^ 42 → unsigned_abs (by_ratio v (intrinsic tree k).0 (intrinsic tree k).1) ≤ 2 ^ 100
    by_width-low v l =
        let is : intrinsic tree k ≡ unwrap_or b.x.size (0, 0) = ap (λ (o : Option BoxNode). unwrap_or (option_and_then (λ (y : BoxNode). y.size) o) (0, 0)) b.place in
        let times = ap (λ (size : ℕ × ℕ). ratio (Some size)) is ∙ same-ratio b.x.size in
        let extent = ap (λ (size : ℕ × ℕ). 64 * size.0 + 64 * size.1) is ∙ same-extent b.x.size in
        let follows = by_width-size v (intrinsic tree k) in
        let most_ratio = ratio-low in
        let most_extent = extent-low in
        let inner : ℕ = unsigned_abs v + (64 * (intrinsic tree k).0 + 64 * (intrinsic tree k).1) in
        let low : unsigned_abs v + (64 * (intrinsic tree k).0 + 64 * (intrinsic tree k).1) ≤ 2 ^ 43 = omega (arith, l, extent, most_extent) in
        let few : ratio (Some (intrinsic tree k)) ≤ 2 ^ 19 = omega (arith, times, most_ratio) in
        let all = mul-le-mul few low in
        omega (arith, follows, all)

  -- ---- a box that is laid out whole

  module _ (k : ℕ) (on : IsOnPage tree.boxes k) (is : IsWhole tree k) where
    abbrev cb : ℤ
    cb = room tree w k

    abbrev b : IsBoxOn tree page w small narrow flat k
    b = whole-on tree page w small narrow flat k on is

    abbrev lengths : AreLengthsLow tree page.low w small (own_style tree k)
    lengths = lengths-of tree page w small narrow flat k b is

    abbrev wide : AreWidthsBounded tree w (2 ^ 42) k
    wide = whole-bounded tree page w small narrow flat k on is

    of_length-fits : (l : Length) → width_in (own_style tree k) ≡ l → UsedFits tree w l cb
    of_length-fits l e = length-fits tree page.low w small k lengths wide l (subst (IsLow tree page.low w small) e lengths.width)

    by_height-fits : RatioFits (intrinsic tree k) (given_height tree w k)
    by_height-fits = by (given_height tree w k) (by_height-bounded tree page w small narrow flat k b)
      where
        by : (o : Option ℤ) → unsigned_abs (by_height (intrinsic tree k) o) ≤ 2 ^ 41 → RatioFits (intrinsic tree k) o
        by None l = (omega (arith, l), tt)
        by (Some h) l = (omega (arith, l), tt)

    pub replaced-fits : ReplacedFits tree w k cb
    replaced-fits = (by (width_in (own_style tree k)) refl, hold-fits tree page.low w small k lengths wide)
      where
        by : (l : Length) → width_in (own_style tree k) ≡ l → TentativeFits tree w k l cb
        by of_length.Auto e = (given-fits tree page w small narrow flat k on is, by_height-fits)
        by (of_length.Px c) e = of_length-fits (of_length.Px c) e
        by (of_length.Em m node) e = of_length-fits (of_length.Em m node) e
        by (of_length.Pct p) e = of_length-fits (of_length.Pct p) e

    replaced_width-low : unsigned_abs (replaced_size tree w k cb).width ≤ 2 ^ 42
    replaced_width-low = let l = wide.replaced_width in omega (arith, l)

    pub by_width-fits : AllSmall (by_ratio (replaced_size tree w k cb).width (intrinsic tree k).0 (intrinsic tree k).1 ∷ [])
    by_width-fits = (by_width-low k b (replaced_size tree w k cb).width replaced_width-low, tt)

    pub widths-fit : WidthsFit (in_block tree w k cb) (placing_of tree k) (preferred tree w k)
    widths-fit = by (placing_of tree k)
      where
        by : (p : Placing) → WidthsFit (in_block tree w k cb) p (preferred tree w k)
        by block_flow = block-fits tree page.low w small k lengths wide
        by shrunk = shrunk-fits tree page.low w small k lengths wide
        by replaced_block = (
          edges-fit tree page.low w small k lengths wide,
          (replaced-fits, fixed-block-fits tree page.low w small k lengths wide (replaced_size tree w k cb).width replaced_width-low),
        )
        by replaced_shrunk = (edges-fit tree page.low w small k lengths wide, replaced-fits)

    pub down-fits : VerticalsFit tree w k cb
    down-fits = verticals-fit tree page.low w small k lengths wide

    -- ---- its margins, and the containing block of the boxes in it

    module _ (band : Band ℤ) (same : inline_size band ≡ room tree w k) (left : unsigned_abs band.left ≤ 2 ^ 90) (right : unsigned_abs band.right ≤ 2 ^ 90) where
      inline_size-fits : AllSmall (inline_size band ∷ [])
      inline_size-fits = let size = size-- band.right band.left in (omega (arith, size, left, right), tt)

      margin-fits : (l : Length) → IsLow tree page.low w small l → MarginFits tree w l band
      margin-fits l i = (inline_size-fits, subst (UsedFits tree w l) (sym same) (length-fits tree page.low w small k lengths wide l i))

      inside-fits : InsideFits tree w band k
      inside-fits =
          let flow = (box-small tree w (2 ^ 42) k (properties-small tree page w small narrow flat k on is)).flow in (
            inline_size-fits,
            (
              subst (BlockFits tree w k) (sym same) (block-fits tree page.low w small k lengths wide),
              content-fits band.left (flow_widths tree w k (inline_size band)) left (subst (λ (z : ℤ). AreWidthsSmall (2 ^ 42) (flow_widths tree w k z)) (sym same) flow),
            ),
          )

      pub box-fits : BoxFits tree w band k
      box-fits = record {
        band = (omega (arith, left), (omega (arith, right), tt));
        top = margin-fits (margins tree k).top lengths.margin.0;
        bottom = margin-fits (margins tree k).bottom lengths.margin.1.1.0;
        inside = λ e. inside-fits;
      }
