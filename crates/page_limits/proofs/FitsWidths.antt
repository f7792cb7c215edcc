-- The lines of a container of a page fit, where the boxes in them are not too large by themselves and what stands before them is not too far.
use Rattle.std.proofs.Common.{◌≡◌, ℕ, zero, suc, ◌+◌, ◌*◌, ◌^◌, ◌≤◌, ℤ, pos, unsigned_abs, List, [], ◌∷◌, length, Option, Some, None, slice_index_or, refl, sym, subst, arith}
use Rattle.std.specs.List.{AllByRecursion}
use Rattle.std.specs.Option.{option_map_or}
use Rattle.std.proofs.lemmas.Int.{ints}
use Rattle.std.proofs.lemmas.List.{length-map}
use Rattle.viz_base.specs.declared.layouts.Band.{Band}
use Rattle.viz_base.specs.declared.layouts.Inner.{Inner}
use Rattle.viz_base.specs.declared.trees.BoxTree.{BoxTree}
use Rattle.viz_base.specs.declared.worlds.World.{World}
use Rattle.viz_calc.specs.State.{AllSmall}
use Rattle.layout_semantics.specs.Blocks.{kind_of, node_of}
use Rattle.layout_semantics.specs.Floats.{FloatBox}
use Rattle.layout_semantics.specs.FlowBoxes.{room}
use Rattle.layout_semantics.specs.Fonts.{text_width}
use Rattle.layout_semantics.specs.Horizontal.{widths}
use Rattle.layout_semantics.specs.InlineContent.{Item, start, finish, word, space, atomic, forced, float, text_of, content, float_boxes}
use Rattle.layout_semantics.specs.LineFilling.{band_width}
use Rattle.layout_semantics.specs.LineHeights.{InlineContext, height_of_extent}
use Rattle.layout_semantics.specs.Order.{IsOnPage}
use Rattle.layout_semantics.proofs.Pages.{within-page}
use Rattle.layout_laws.proofs.Levels.{All-implied}
use Rattle.lay_line.specs.Fits.{WidthFits}
use Rattle.lay_line.specs.Limits.{AllWithin, FloatsWithin, floats_reach, weight}
use Rattle.lay_line.specs.LinesFit.{LinesFit}
use Rattle.lay_line.specs.steps.Loading.{reaching, tallest_by}
use Rattle.lay_line.specs.steps.Measured.{Measured, measured}
use Rattle.lay_line.specs.steps.Words.{strut_in, width_in}
use Rattle.lay_line.proofs.Growth.{items_high}
use Rattle.lay_line.proofs.Parts.{bare-measured}
use Rattle.lay_length.proofs.SmallNumbers.{size-+, size-max}
use Rattle.lay_steps.proofs.InOrder.{whole_no_inline}
use Rattle.page_limits.specs.Boxes.{IsPartOf, IsWhole}
use Rattle.page_limits.specs.Bounds.{all_around, IsBandIn, IsFloatIn, IsLevelIn}
use Rattle.page_limits.proofs.ContentBoxes.{ItemIn, content-items}
use Rattle.page_limits.proofs.TermsWithin.{box-small}
use Rattle.page_limits.proofs.WidthsLevels.{IsFarPage}
use Rattle.page_limits.proofs.PageSmall.{inline-small, properties-small}
use Rattle.page_limits.proofs.FitsEdges.{start-fits, finish-fits}
use Rattle.page_limits.proofs.FitsFonts.{IsBoxed, inline-fits, part-fits}
use Rattle.page_limits.proofs.FitsItems.{few-items}
use Rattle.page_limits.proofs.FitsLines.{IsInnerLow, box-fits, float-reach-low, reaches}
use Rattle.page_limits.proofs.FitsRaises.{at-boxed, at-low}

-- ---- bounds

level-size : (y : ℤ) → IsLevelIn (all_around (2 ^ 81)) y → unsigned_abs y ≤ 2 ^ 81
level-size y l = let top = l.top in let bottom = l.bottom in omega (arith, ints, top, bottom)

floats-within : (floats : List FloatBox) → AllByRecursion (IsFloatIn (all_around (2 ^ 81))) floats → FloatsWithin (2 ^ 81) floats
floats-within [] a f (i, l, e) = absurd (omega arith)
floats-within (x ∷ floats) a f (zero, l, e) =
    let b = a.0 in
    subst (λ (g : FloatBox). AllWithin (2 ^ 81) (g.box.left ∷ g.box.top ∷ g.box.right ∷ g.box.bottom ∷ [])) e
    (b.left, (level-size x.box.top b.top, (b.right, (level-size x.box.bottom b.bottom, tt))))
floats-within (x ∷ floats) a f (suc i, l, e) = floats-within floats a.1 f (i, omega arith, e)

module _ (tree : BoxTree) (page : IsFarPage tree) (first : IsBoxed tree 0) (w : World) (small : w.s ≤ 256) (narrow : w.w ≤ 16384) (flat : w.h ≤ 16384)
    (k : ℕ) (on : IsOnPage tree.boxes k) (whole : IsWhole tree k) (inner : List (Option (Inner ℤ))) (cb : Band ℤ)
    (same : band_width cb ≡ (widths tree w k (room tree w k)).content) (inners : (at : ℕ) (i : Inner ℤ) → slice_index_or inner at None ≡ Some i → IsInnerLow i) where
  abbrev c : InlineContext
  c = record { tree = tree; world = w; container = k; inner = inner; cb = cb }

  near : unsigned_abs (band_width cb) ≤ 2 ^ 50
  near =
      let content = (box-small tree w (2 ^ 42) k (properties-small tree page w small narrow flat k on whole)).widths.content in
      subst (λ (z : ℤ). unsigned_abs z ≤ 2 ^ 50) (sym same) (omega (arith, content))

  -- ---- widths

  record IsWidthFit (i : Item) : Type 0 where
    fit : WidthFits c i
    size : unsigned_abs (width_in c i) ≤ 2 ^ 72

  text-fits : (at : ℕ) (part : List ℕ) → IsOnPage tree.boxes at → IsPartOf part (text_of tree at) → unsigned_abs (text_width tree w (node_of tree at) part) ≤ 2 ^ 42
  text-fits at part p is = (inline-small tree page w small narrow flat at p).text part is

  width-fits : (wide : ℤ) (i : Item) → ItemIn tree w wide i → IsWidthFit i
  unfolding ItemIn WidthFits width_in
  width-fits wide (word at text) h =
      let size = text-fits at text h.0.page h.1 in
      record { fit = part-fits tree page.low w small (node_of tree at) (text_width tree w (node_of tree at) text) (at-boxed tree page.low first w small at) (omega (arith, size)); size = omega (arith, size) }
  width-fits wide (space at) h =
      let size = text-fits at (32 ∷ []) h.0.page h.1 in
      record { fit = part-fits tree page.low w small (node_of tree at) (text_width tree w (node_of tree at) (32 ∷ [])) (at-boxed tree page.low first w small at) (omega (arith, size)); size = omega (arith, size) }
  width-fits wide (start at) h = let f = start-fits tree page.low w small k inner cb near at in record { fit = f.fit; size = f.size }
  width-fits wide (finish at) h = let f = finish-fits tree page.low w small k inner cb near at in record { fit = f.fit; size = f.size }
  width-fits wide (forced at) h = record { fit = (omega arith, tt); size = omega arith }
  width-fits wide (float at) h = record { fit = (omega arith, tt); size = omega arith }
  width-fits wide (atomic at) h = let f = by (slice_index_or inner at None) (λ i e. inners at i e) in record { fit = f.0; size = f.1 }
    where
      both : (z : ℤ) → unsigned_abs z ≤ 2 ^ 72 → AllSmall (z ∷ []) × (unsigned_abs z ≤ 2 ^ 72)
      both z l = ((omega (arith, l), tt), l)

      by : (o : Option (Inner ℤ)) → ((i : Inner ℤ) → o ≡ Some i → IsInnerLow i) → AllSmall (option_map_or (λ (i : Inner ℤ). i.width) o (pos 0) ∷ []) × (unsigned_abs (option_map_or (λ (i : Inner ℤ). i.width) o (pos 0)) ≤ 2 ^ 72)
      by None f = both (pos 0) (omega arith)
      by (Some i) f = both i.width (f i refl).width

  items-fit : AllByRecursion IsWidthFit (content tree k)
  items-fit =
      All-implied (ItemIn tree w (widths tree w k (room tree w k)).content) IsWidthFit (content tree k) (λ i h. width-fits _ i h)
      (content-items tree w k (room tree w k) (record { page = on; room = refl; block = whole_no_inline (kind_of tree k) whole }))

  abbrev measured_one : Item → Measured
  measured_one i = record { item = i; width = width_in c i }

  weight-most : (items : List Item) → AllByRecursion IsWidthFit items → weight (measured (width_in c) items) ≤ length items * 2 ^ 72
  weight-most [] a = omega arith
  weight-most (i ∷ items) a = let rest = weight-most items a.1 in let here = a.0.size in omega (arith, rest, here)

  -- ---- floats

  floats-most : (boxes : List ℕ) → floats_reach c boxes ≤ length boxes * 2 ^ 74
  floats-most [] = omega arith
  floats-most (at ∷ boxes) =
      let rest = floats-most boxes in
      let here = float-reach-low tree page.low page.few_boxes first w small k inner cb near inners at in
      omega (arith, rest, here)

  floats-few : (items : List Item) → length (float_boxes items) ≤ length items
  floats-few [] = omega arith
  floats-few (start at ∷ items) = let rest = floats-few items in omega (arith, rest)
  floats-few (finish at ∷ items) = let rest = floats-few items in omega (arith, rest)
  floats-few (word at text ∷ items) = let rest = floats-few items in omega (arith, rest)
  floats-few (space at ∷ items) = let rest = floats-few items in omega (arith, rest)
  floats-few (atomic at ∷ items) = let rest = floats-few items in omega (arith, rest)
  floats-few (forced at ∷ items) = let rest = floats-few items in omega (arith, rest)
  floats-few (float at ∷ items) = let rest = floats-few items in omega (arith, rest)

  -- ---- heights

  strut-low : AllWithin (5 * 2 ^ 72) ((strut_in c).above ∷ (strut_in c).below ∷ [])
  unfolding strut_in
  strut-low = let n = at-low tree page.low first w small k in let above = n.above in let below = n.below in (omega (arith, above), (omega (arith, below), tt))

  tallest-low : AllWithin (2 ^ 95) (tallest_by c (content tree k) ∷ [])
  unfolding tallest_by
  tallest-low =
      let e = reaching c (strut_in c) (content tree k) in
      let high = items_high c (5 * 2 ^ 72) (reaches tree page.low page.few_boxes first w small k inner cb near inners) (strut_in c) (content tree k) strut-low in
      let above = high.0 in
      let below = high.1.0 in
      let sum = size-+ e.above e.below in
      (size-max (pos 1) (height_of_extent e) (2 ^ 95) (omega arith) (omega (arith, above, below, sum)), tt)

  -- ---- all lines

  pub lines-fit-here : (top least : ℤ) (floats : List FloatBox) → IsBandIn (all_around (2 ^ 81)) cb → IsLevelIn (all_around (2 ^ 81)) top → IsLevelIn (all_around (2 ^ 81)) least → AllByRecursion (IsFloatIn (all_around (2 ^ 81))) floats
      → LinesFit c top least floats
  lines-fit-here top least floats band at up beside =
      let few = few-items tree page.few_boxes page.few_characters k (within-page tree k on) in
      let widths_most = weight-most (content tree k) items-fit in
      let reach = floats-most (float_boxes (content tree k)) in
      let floated = floats-few (content tree k) in
      let count = length-map (content tree k) measured_one in
      let room : 2 ^ 81 + floats_reach c (float_boxes (content tree k)) + length (measured (width_in c) (content tree k)) * (2 * (5 * 2 ^ 72)) ≤ 2 ^ 95 = omega (arith, few, reach, floated, count) in
      record {
        widths = All-implied IsWidthFit (WidthFits c) (content tree k) (λ i h. h.fit) items-fit;
        rest = record {
          boxes = box-fits tree page.low page.few_boxes first w small k inner cb near inners;
          strut = inline-fits tree page.low w small (node_of tree k) (at-low tree page.low first w small k);
          high = 5 * 2 ^ 72;
          reaches = reaches tree page.low page.few_boxes first w small k inner cb near inners;
          strut_reaches = strut-low;
          low = omega arith;
          tall_near = tallest-low;
          most = 2 ^ 81;
          floats = floats-within floats beside;
          numbers = (band.left, (band.right, (level-size least up, (level-size top at, tt))));
          widths = omega (arith, few, widths_most);
          room = subst (λ (items : List Item). 2 ^ 81 + floats_reach c (float_boxes items) + length (measured (width_in c) (content tree k)) * (2 * (5 * 2 ^ 72)) ≤ 2 ^ 95) (sym (bare-measured (width_in c) (content tree k))) room;
        };
      }
