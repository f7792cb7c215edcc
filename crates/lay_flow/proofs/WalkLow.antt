-- Numbers of the walk that are small are low, and the cleared box that is ahead stays where it is.
use Rattle.std.proofs.Common.{◌≡◌, ℕ, ◌<◌, ◌≤◌, ◌^◌, ℤ, Bool, true, false, List, [], ◌∷◌, length, refl, subst, arith, sym}
use Rattle.std.specs.Option.{option_to_list}
use Rattle.viz_base.specs.declared.layouts.Band.{Band}
use Rattle.viz_base.specs.declared.layouts.Widths.{Widths}
use Rattle.viz_base.specs.declared.trees.BoxTree.{BoxTree}
use Rattle.viz_base.specs.declared.worlds.World.{World}
use Rattle.layout_semantics.specs.Flow.{Independent}
use Rattle.layout_semantics.specs.FlowBoxes.{flow_children}
use Rattle.layout_semantics.specs.InlineContent.{has_line, is_floated_at}
use Rattle.layout_semantics.specs.Verticals.{Verticals}
use Rattle.lay_steps.specs.Flow.{Context, Met, Standing, Step, at_top, below}
use Rattle.page_limits.specs.Bounds.{Bounds, AreInside, all_around}
use Rattle.page_limits.specs.Boxes.{AreSidesSmall, AreWidthsSmall, IsIndependentIn}
use Rattle.page_limits.proofs.BoxesWithin.{boxes-wider}
use Rattle.page_limits.proofs.Levels.{level-wider}
use Rattle.page_limits.proofs.LinesWithin.{levels-wider}
use Rattle.lay_flow.specs.Low.{reach, IsIndependentLow, IsClearedLow}
use Rattle.lay_steps.specs.Flow.{Ending, child, child_of, children_of, content_step, content_of, float_of, flow_child, in_flow, in_lines, standing_after}
use Rattle.lay_steps.proofs.Levels.{content-is}

-- ---- numbers that are small are low

pub widths-low : (t : ℕ) (x : Widths ℤ) → t ≤ 2 ^ 90 → AreWidthsSmall t x → AreWidthsSmall (2 ^ 90) x
widths-low t x l h =
    let a = h.margin_left in let b = h.border_left in let c = h.padding_left in let d = h.content in let e = h.padding_right in let f = h.border_right in let g = h.margin_right in
    record {
      margin_left = omega (arith, a, l);
      border_left = omega (arith, b, l);
      padding_left = omega (arith, c, l);
      content = omega (arith, d, l);
      padding_right = omega (arith, e, l);
      border_right = omega (arith, f, l);
      margin_right = omega (arith, g, l);
    }

pub sides-low : (t : ℕ) (v : Verticals) → t ≤ 2 ^ 90 → AreSidesSmall t v → AreSidesSmall (2 ^ 90) v
sides-low t v l h =
    let a = h.margin_top in let b = h.border_top in let c = h.padding_top in let d = h.padding_bottom in let e = h.border_bottom in let f = h.margin_bottom in
    record {
      margin_top = omega (arith, a, l);
      border_top = omega (arith, b, l);
      padding_top = omega (arith, c, l);
      padding_bottom = omega (arith, d, l);
      border_bottom = omega (arith, e, l);
      margin_bottom = omega (arith, f, l);
    }

-- boxes in coordinates of their own
pub independent-wider : (own around : Bounds) (s m : ℕ) (a : Independent) → s ≤ m → AreInside own around → IsIndependentIn own s a → IsIndependentIn around m a
independent-wider own around s m a l i h =
    let width = h.width in
    record {
      width = omega (arith, width, l);
      height = level-wider own around a.size.height i h.height;
      baseline = levels-wider own around (option_to_list a.baseline) i h.baseline;
      boxes = boxes-wider own around a.boxes i h.boxes;
    }

pub independent-low : (a : Independent) → IsIndependentIn (all_around (2 ^ 72)) (2 ^ 72) a → IsIndependentLow a
independent-low a h =
    let wide = independent-wider (all_around (2 ^ 72)) reach (2 ^ 72) (2 ^ 90) a (omega arith) (record { up = omega arith; down = omega arith; aside = omega arith }) h in
    record { size = record { width = wide.width; height = wide.height }; baseline = wide.baseline; boxes = wide.boxes }

-- ---- the cleared box that is ahead stays where it is

abbrev pub IsAheadLow : Standing → Type 0
IsAheadLow (at_top y cleared) = IsClearedLow cleared
IsAheadLow (below edge run stuck) = Unit {0}

module _ (tree : BoxTree) (w : World) (apart : ℕ → Independent) where
  after-ahead : (cb : Band ℤ) (st : Standing) (b : ℕ) (m : Met) (end : Ending) → IsAheadLow st → IsAheadLow (standing_after tree w cb st b m end)
  unfolding standing_after
  after-ahead cb st b m end h = by end.through m.reached.clears st refl refl h
    where
      by : (t c : Bool) (st : Standing) → end.through ≡ t → m.reached.clears ≡ c → IsAheadLow st → IsAheadLow (standing_after tree w cb st b m end)
      by false c st t e h = rw t tt
      by true true st t e h = rw (t, e) tt
      by true false (at_top y cleared) t e h = rw (t, e) h
      by true false (below edge run stuck) t e h = rw (t, e) tt

  pub child-ahead : (cb : Band ℤ) (top : ℤ) (s : Context) (k : ℕ) → IsAheadLow s.standing → IsAheadLow (child_of tree w apart cb top s k).context.standing
  unfolding child float_of flow_child
  child-ahead cb top s k h = by (is_floated_at tree k)
    where
      by : (f : Bool) → IsAheadLow (elim f as (λ _. Step) [ true ↦ float_of tree w apart cb top s k | false ↦ in_flow tree w apart cb s k ]).context.standing
      by true = h
      by false = after-ahead cb s.standing k _ _ h

  children-ahead : (cb : Band ℤ) (top : ℤ) (s : Context) (ks : List ℕ) → IsAheadLow s.standing → IsAheadLow (children_of tree w apart cb top s ks).context.standing
  children-ahead cb top s [] h = h
  children-ahead cb top s (k ∷ ks) h = children-ahead cb top (child_of tree w apart cb top s k).context ks (child-ahead cb top s k h)

  -- behind all that is in a box
  pub content-ahead : (k : ℕ) (cb : Band ℤ) (top : ℤ) (s : Context) → k < length tree.boxes → IsAheadLow s.standing → IsAheadLow (content_of tree w apart k cb top s).context.standing
  unfolding content_step in_lines
  content-ahead k cb top s l h = subst (λ (x : Step). IsAheadLow x.context.standing) (sym (content-is tree w apart k cb top s l)) (by (has_line tree k))
    where
      by : (t : Bool) → IsAheadLow (elim t as (λ _. Step) [ true ↦ in_lines tree w apart k cb top s | false ↦ children_of tree w apart cb top s (flow_children tree k) ]).context.standing
      by true = tt
      by false = children-ahead cb top s (flow_children tree k) h
