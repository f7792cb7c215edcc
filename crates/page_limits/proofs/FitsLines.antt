-- What is computed of the lines of a container fits, where the boxes in them are not too large by themselves and the lines not too wide.
use Rattle.std.proofs.Common.{◌≡◌, ℕ, ◌+◌, ◌*◌, ◌^◌, ◌≤◌, ℤ, pos, ◌+ℤ◌, unsigned_abs, List, [], ◌∷◌, length, Option, Some, None, slice_index_or, refl, sym, subst, arith}
use Rattle.std.specs.Option.{option_map_or}
use Rattle.viz_base.specs.declared.layouts.Band.{Band}
use Rattle.viz_base.specs.declared.layouts.Extent.{Extent}
use Rattle.viz_base.specs.declared.layouts.Inner.{Inner}
use Rattle.viz_base.specs.declared.trees.BoxTree.{BoxTree}
use Rattle.viz_base.specs.declared.worlds.World.{World}
use Rattle.viz_calc.specs.State.{AllSmall}
use Rattle.layout_semantics.specs.Blocks.{node_of}
use Rattle.layout_semantics.specs.Fonts.{ascent, descent}
use Rattle.layout_semantics.specs.LineFilling.{band_width}
use Rattle.layout_semantics.specs.LineHeights.{InlineContext, inline_extent, box_extent}
use Rattle.lay_line.specs.Fits.{InlineFits, OwnFits, ReachFits}
use Rattle.lay_line.specs.LineFits.{BoxFits, text_raised}
use Rattle.lay_line.specs.Limits.{AllWithin, float_reach}
use Rattle.lay_line.specs.steps.Words.{own_reach, raised, inline_raised, reach_in, size_in}
use Rattle.lay_length.proofs.SmallExtents.{IsLowTree}
use Rattle.lay_length.proofs.SmallNumbers.{size-+, size--}
use Rattle.page_limits.proofs.FitsFonts.{IsBoxed, font-fits, inline-fits}
use Rattle.page_limits.proofs.FitsEdges.{margins-fit, borders-fit, paddings-fit}
use Rattle.page_limits.proofs.FitsRaises.{IsExtentLow, at-low, inline-low, shift-fits, shift-low, inline-shift-fits, inline-shift-low, text-shift-fits, text-shift-low}

-- what a float or an atomic box takes of lines is not too much
pub record IsInnerLow (i : Inner ℤ) : Type 0 where
  pub width : unsigned_abs i.width ≤ 2 ^ 72
  pub above : unsigned_abs i.above ≤ 2 ^ 72
  pub below : unsigned_abs i.below ≤ 2 ^ 73

module _ (tree : BoxTree) (low : IsLowTree tree) (few : length tree.boxes ≤ 16384) (first : IsBoxed tree 0) (w : World) (small : w.s ≤ 256)
    (container : ℕ) (inner : List (Option (Inner ℤ))) (cb : Band ℤ) (near : unsigned_abs (band_width cb) ≤ 2 ^ 50)
    (inners : (at : ℕ) (i : Inner ℤ) → slice_index_or inner at None ≡ Some i → IsInnerLow i) where
  abbrev c : InlineContext
  c = record { tree = tree; world = w; container = container; inner = inner; cb = cb }

  -- ---- a box, by itself and in its line

  own-low : (at : ℕ) → IsExtentLow (box_extent c at)
  own-low at = by (slice_index_or inner at None) refl
    where
      by : (o : Option (Inner ℤ)) → slice_index_or inner at None ≡ o → IsExtentLow (option_map_or (λ (i : Inner ℤ). record { above = i.above; below = i.below }) (slice_index_or inner at None) (inline_extent tree w (node_of tree at)))
      by None e = subst (λ (o : Option (Inner ℤ)). IsExtentLow (option_map_or (λ (i : Inner ℤ). record { above = i.above; below = i.below }) o (inline_extent tree w (node_of tree at)))) (sym e) (inline-low tree low first w small container inner cb at)
      by (Some i) e =
          let held = inners at i e in
          subst (λ (o : Option (Inner ℤ)). IsExtentLow (option_map_or (λ (i : Inner ℤ). record { above = i.above; below = i.below }) o (inline_extent tree w (node_of tree at)))) (sym e) (record { above = held.above; below = held.below })

  own-fits : (at : ℕ) → OwnFits c at
  unfolding OwnFits
  own-fits at = by (slice_index_or inner at None) (λ i e. inners at i e)
    where
      by : (o : Option (Inner ℤ)) → ((i : Inner ℤ) → o ≡ Some i → IsInnerLow i) → elim o as (λ (o : Option (Inner ℤ)). Type 0) [ None ↦ InlineFits tree w (node_of tree at) | Some i ↦ AllSmall (i.above ∷ i.below ∷ []) ]
      by None f = inline-fits tree low w small (node_of tree at) (at-low tree low first w small at)
      by (Some i) f = let held = f i refl in let above = held.above in let below = held.below in (omega (arith, above), (omega (arith, below), tt))

  -- how far it is raised, and reaches
  pub reaches : (at : ℕ) → AllWithin (5 * 2 ^ 72) ((reach_in c at).above ∷ (reach_in c at).below ∷ [])
  unfolding reach_in own_reach
  reaches at =
      let own = own-low at in
      let above = own.above in
      let below = own.below in
      let shift = shift-low tree low first w small container inner cb few at (box_extent c at) in
      let up = size-+ (box_extent c at).above (raised c at (box_extent c at)) in
      let down = size-- (box_extent c at).below (raised c at (box_extent c at)) in
      (omega (arith, above, below, shift, up), (omega (arith, above, below, shift, down), tt))

  reach-fits : (at : ℕ) → ReachFits c at
  unfolding ReachFits own_reach
  reach-fits at =
      let own = own-low at in
      let above = own.above in
      let below = own.below in
      let shift = shift-low tree low first w small container inner cb few at (box_extent c at) in
      let up = size-+ (box_extent c at).above (raised c at (box_extent c at)) in
      let down = size-- (box_extent c at).below (raised c at (box_extent c at)) in
      (own-fits at, (shift-fits tree low first w small container inner cb few at (box_extent c at) own, (omega (arith, above, below, shift, up), (omega (arith, above, below, shift, down), tt))))

  heights-low : (at : ℕ) → AllWithin (2 ^ 90) (text_raised c at ∷ inline_raised c at ∷ raised c at (own_reach c at) ∷ (own_reach c at).above ∷ ascent tree w (node_of tree at) ∷ descent tree w (node_of tree at) ∷ [])
  unfolding own_reach
  heights-low at =
      let own = own-low at in
      let above = own.above in
      let below = own.below in
      let shift = shift-low tree low first w small container inner cb few at (box_extent c at) in
      let fonts = (at-low tree low first w small at).fonts in (
        text-shift-low tree low first w small container inner cb few at,
        (inline-shift-low tree low first w small container inner cb few at, (omega (arith, above, below, shift), (omega (arith, above), (omega (arith, fonts), (omega (arith, fonts), tt))))),
      )

  pub box-fits : (at : ℕ) → BoxFits c at
  box-fits at =
      let padding = paddings-fit tree low w small container inner cb near at in
      let border = borders-fit tree low w small container inner cb near at in
      let margin = margins-fit tree low w small container inner cb near at in
      record {
        text_raise = text-shift-fits tree low first w small container inner cb few at;
        inline_raise = inline-shift-fits tree low first w small container inner cb few at;
        font = font-fits tree low w small (node_of tree at) (at-low tree low first w small at);
        reach = reach-fits at;
        padding = padding.fit;
        border = border.fit;
        margin = margin.fit;
        heights = heights-low at;
        edges = (padding.within, (border.within, margin.within));
      }

  -- ---- floats

  abbrev size_by : Option (Inner ℤ) → Extent ℤ
  size_by o = option_map_or (λ (i : Inner ℤ). record { width = i.width; height = i.above +ℤ i.below }) o (record { width = pos 0; height = pos 0 })

  pub float-reach-low : (at : ℕ) → float_reach c at ≤ 2 ^ 74
  unfolding size_in
  float-reach-low at = by (slice_index_or inner at None) (λ i e. inners at i e)
    where
      by : (o : Option (Inner ℤ)) → ((i : Inner ℤ) → o ≡ Some i → IsInnerLow i) → unsigned_abs (size_by o).width + unsigned_abs (size_by o).height ≤ 2 ^ 74
      by None f = omega arith
      by (Some i) f =
          let held = f i refl in
          let width = held.width in
          let above = held.above in
          let below = held.below in
          let height = size-+ i.above i.below in
          omega (arith, width, above, below, height)
