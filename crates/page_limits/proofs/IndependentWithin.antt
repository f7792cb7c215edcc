-- A box in coordinates of its own stays within bounds.
use Rattle.std.proofs.Common.{◌≡◌, ℕ, ◌+◌, ◌*◌, ◌<◌, ◌≤◌, ℤ, pos, ◌+ℤ◌, ◌-ℤ◌, unsigned_abs, Bool, true, false, [], length, refl, sym, subst, arith}
use Rattle.std.proofs.lemmas.Int.{ints}
use Rattle.viz_base.specs.declared.trees.BoxTree.{BoxTree}
use Rattle.viz_base.specs.declared.worlds.World.{World}
use Rattle.layout_semantics.specs.Flow.{Independent, content_height}
use Rattle.layout_semantics.specs.FlowBoxes.{is_replaced_at, flow_children, content_from}
use Rattle.layout_semantics.specs.Horizontal.{widths}
use Rattle.layout_semantics.specs.InlineContent.{has_line}
use Rattle.layout_semantics.specs.Order.{IsOnPage}
use Rattle.layout_semantics.specs.Rectangles.{Frame, content_top, placed_box, border_width}
use Rattle.layout_semantics.specs.Replaced.{replaced_size}
use Rattle.layout_semantics.specs.Verticals.{verticals}
use Rattle.lay_steps.specs.Flow.{Step, fresh, corner_of, replaced_of, root_of, context_height, replaced_independent, context_independent, content_of, independent_of}
use Rattle.lay_steps.proofs.Sound.{IsSound}
use Rattle.lay_steps.proofs.StepCases.{independent-replaced, independent-context}
use Rattle.page_limits.specs.Bounds.{Bounds, AreInside, grown, all_around, IsLevelIn, IsBandIn, IsPlacedIn}
use Rattle.page_limits.specs.Inline.{IsSmall, IsContentSmall}
use Rattle.page_limits.specs.Boxes.{AreWidthsSmall, AreSidesSmall, IsWhole, IsBoxSmall, IsIndependentIn}
use Rattle.page_limits.specs.Rises.{content_rise}
use Rattle.page_limits.proofs.Levels.{level-wider, inside-grown}
use Rattle.page_limits.proofs.LinesWithin.{levels-wider}
use Rattle.page_limits.proofs.BoxesWithin.{box-wider, boxes-wider, width-small, top-in, placed-box-in, clamped-in, context-bottom-in, none-low}
use Rattle.page_limits.proofs.FlowWithin.{IsContextIn, IsStepIn, stands-in}
use Rattle.page_limits.proofs.ContentWithin.{line_context, content-in}

outer-small : (t : ℕ) (x m l r : ℤ) (wide : ℤ) → unsigned_abs wide ≤ 5 * t → unsigned_abs l ≤ t → unsigned_abs r ≤ t → unsigned_abs ((x +ℤ wide +ℤ r) -ℤ (x -ℤ l)) ≤ 7 * t
outer-small t x m l r wide h a b = omega (arith, ints, h, a, b)

module _ (tree : BoxTree) (w : World) (own turned : ℕ → Bounds) (s t : ℕ) (fine : 8 * t ≤ s)
    (boxes : (k : ℕ) → IsOnPage tree.boxes k → IsWhole tree k → IsBoxSmall tree w t k) (apart : ℕ → Independent) (independent_in : (k : ℕ) → IsIndependentIn (own k) s (apart k))
    (lines_small : (k : ℕ) (left wide : ℤ) → IsSound tree w k wide → has_line tree k ≡ true
    → IsContentSmall (line_context tree w own turned s t fine boxes apart independent_in k left wide) own turned s) where
  -- what a box can take in coordinates of its own
  abbrev pub independent_rise : ℕ → Bounds
  independent_rise k = grown (all_around (32 * (s + 1))) (content_rise tree own turned s k)

  -- its box and what is in it
  pub whole-in : (k : ℕ) (wide h : ℤ) → IsSound tree w k wide → IsWhole tree k → let f = corner_of tree w k wide in IsLevelIn (grown (all_around (24 * s)) (content_rise tree own turned s k)) (content_top f +ℤ h)
      → IsPlacedIn (independent_rise k) (placed_box tree k f h)
  unfolding corner_of
  whole-in k wide h i q l =
      let box = boxes k i.page q in
      let f = corner_of tree w k wide in
      let x = subst (λ (z : ℤ). AreWidthsSmall t (widths tree w k z)) (sym i.room) box.widths in
      let v = subst (λ (z : ℤ). AreSidesSmall t (verticals tree w k z)) (sym i.room) box.sides in
      let b = grown (all_around (24 * s)) (content_rise tree own turned s k) in
      let ml = x.margin_left in
      let mt = v.margin_top in
      box-wider (grown b (all_around (2 * s))) (independent_rise k) (placed_box tree k f h) (record { up = omega arith; down = omega arith; aside = omega arith })
      (placed-box-in s t fine b tree k f h x v (omega (arith, ml, fine)) (record { top = omega (arith, ints, mt, fine); bottom = omega (arith, ints, mt, fine) }) l)

  pub width-in : (k : ℕ) (wide h : ℤ) → IsSound tree w k wide → IsWhole tree k → let p = placed_box tree k (corner_of tree w k wide) h in IsSmall s (p.margin.right -ℤ p.margin.left)
  unfolding corner_of
  width-in k wide h i q =
      let f = corner_of tree w k wide in
      let x = subst (λ (z : ℤ). AreWidthsSmall t (widths tree w k z)) (sym i.room) (boxes k i.page q).widths in
      let all = width-small t f.x.border_left f.x.padding_left f.x.content f.x.padding_right f.x.border_right x.border_left x.padding_left x.content x.padding_right x.border_right in
      let sum = outer-small t f.corner.x (pos 0) f.x.margin_left f.x.margin_right (border_width f.x) all x.margin_left x.margin_right in
      omega (arith, sum, fine)

  pub height-in : (k : ℕ) (b : Bounds) (wide h : ℤ) → let p = placed_box tree k (corner_of tree w k wide) h in IsPlacedIn b p → IsLevelIn b (p.margin.bottom -ℤ p.margin.top)
  unfolding corner_of
  height-in k b wide h i = subst (IsLevelIn b) (same (verticals tree w k wide).margin_top (placed_box tree k (corner_of tree w k wide) h).margin.bottom) i.margin.bottom
    where
      same : (m z : ℤ) → z ≡ z -ℤ (m -ℤ m)
      same m z = omega (arith, ints)

  pub independent-within : (k : ℕ) (wide : ℤ) → IsSound tree w k wide → IsWhole tree k → k < length tree.boxes → IsIndependentIn (independent_rise k) s (independent_of tree w apart k wide)
  unfolding corner_of replaced_of root_of replaced_independent context_independent
  independent-within k wide i q l = by (is_replaced_at tree k) refl
    where
      f : Frame
      f = corner_of tree w k wide

      box : IsBoxSmall tree w t k
      box = boxes k i.page q

      x : AreWidthsSmall t f.x
      x = subst (λ (z : ℤ). AreWidthsSmall t (widths tree w k z)) (sym i.room) box.widths

      v : AreSidesSmall t f.v
      v = subst (λ (z : ℤ). AreSidesSmall t (verticals tree w k z)) (sym i.room) box.sides

      begin : Bounds
      begin = all_around (16 * s)

      done : Bounds
      done = grown begin (content_rise tree own turned s k)

      top : ℤ
      top = content_top f

      corner : IsLevelIn (all_around s) f.corner.y
      corner = let m = v.margin_top in record { top = omega (arith, ints, m, fine); bottom = omega (arith, ints, m, fine) }

      top_is : IsLevelIn begin top
      top_is = level-wider (grown (all_around s) (all_around s)) begin top (record { up = omega arith; down = omega arith; aside = omega arith }) (top-in s t fine (all_around s) f v corner)

      end : Step
      end = content_of tree w apart k (content_from (pos 0) f.x) top (fresh top)

      band : IsBandIn begin (content_from (pos 0) f.x)
      band = let a = x.margin_left in let b = x.border_left in let c = x.padding_left in let d = x.content in record { left = omega (arith, ints, a, b, c, fine); right = omega (arith, ints, a, b, c, d, fine) }

      fresh-in : IsContextIn tree w own turned s t fine boxes apart independent_in begin (flow_children tree k) (fresh top)
      fresh-in = record { standing = (top_is, none-low s); floats = tt; least = tt; baseline = tt }

      inside : IsStepIn tree w own turned s t fine boxes apart independent_in done [] end
      inside = content-in tree w own turned s t fine boxes apart independent_in lines_small (length tree.boxes) k begin (pos 0) wide top (fresh top) i l band top_is fresh-in

      wide_enough : AreInside done (independent_rise k)
      wide_enough = record { up = omega arith; down = omega arith; aside = omega arith }

      tall : ℤ
      tall = content_height tree w k (context_height top end.context)

      low : IsLevelIn (grown (all_around (24 * s)) (content_rise tree own turned s k)) (top +ℤ tall)
      low =
          let more = grown done (all_around (2 * s)) in
          let bottom = context-bottom-in done s top end.context (level-wider begin done top (inside-grown begin (content_rise tree own turned s k)) top_is)
          (stands-in tree w own turned s t fine boxes apart independent_in done [] end.context.standing inside.context.standing) inside.context.floats in
          level-wider (grown more (all_around s)) (grown (all_around (24 * s)) (content_rise tree own turned s k)) (top +ℤ tall) (record { up = omega arith; down = omega arith; aside = omega arith })
          (clamped-in s t fine more top (context_height top end.context) tall (box.clamped (context_height top end.context)) (level-wider begin more top (record { up = omega arith; down = omega arith; aside = omega arith }) top_is) bottom)

      by : (r : Bool) → is_replaced_at tree k ≡ r → IsIndependentIn (independent_rise k) s (independent_of tree w apart k wide)
      by true e =
          let h = (replaced_size tree w k wide).height in
          let high = subst (λ (z : ℤ). IsSmall t (replaced_size tree w k z).height) (sym i.room) box.replaced in
          let tt_ = top_is.top in let tb = top_is.bottom in
          let p = whole-in k wide h i q (record { top = omega (arith, ints, high, fine); bottom = omega (arith, ints, high, fine) }) in
          subst (IsIndependentIn (independent_rise k) s) (sym (independent-replaced tree w (content_of tree w apart) k wide e)) (record { width = width-in k wide h i q; height = height-in k (independent_rise k) wide h p; baseline = tt; boxes = (p, tt) })
      by false e =
          let p = whole-in k wide tall i q low in
          subst (IsIndependentIn (independent_rise k) s) (sym (independent-context tree w (content_of tree w apart) k wide e)) (record {
            width = width-in k wide tall i q;
            height = height-in k (independent_rise k) wide tall p;
            baseline = levels-wider done (independent_rise k) _ wide_enough inside.context.baseline;
            boxes = (p, boxes-wider done (independent_rise k) end.boxes wide_enough inside.placed);
          })
