-- Floats are placed one after another by the rules, in normal flow.
use Rattle.std.proofs.Common.{◌≡◌, ℕ, zero, suc, ℤ, Bool, true, false, List, [], ◌∷◌, fold, map, length, unwrap_or, refl}
use Rattle.viz_base.specs.declared.layouts.Band.{Band}
use Rattle.viz_base.specs.declared.trees.BoxTree.{BoxTree}
use Rattle.viz_base.specs.declared.worlds.World.{World}
use Rattle.layout_semantics.specs.Lists.{table_of}
use Rattle.layout_semantics.specs.Floats.{FloatBox, floating}
use Rattle.layout_semantics.specs.InlineContent.{is_floated_at, has_line, inner_boxes}
use Rattle.layout_semantics.specs.FlowBoxes.{is_replaced_at, is_context_root, flow_children, inline_size}
use Rattle.layout_semantics.specs.Flow.{Progress, Reached, independent, float_child, laid, reached, child, inner_size, flow_step, flow_to}
use Rattle.layout_laws.specs.PlacedFloats.{ArePlacedAfter, none, next}
use Rattle.layout_laws.proofs.PlacedFloats.{of_lines, float_next}

-- two steps
pub both : (a b : List FloatBox) (c : List FloatBox) → ArePlacedAfter a b → ArePlacedAfter b c → ArePlacedAfter a c
both a b c h none = h
both a b c h (next floats side size cb top k) = next floats side size cb top (both a b floats h k)

module _ (tree : BoxTree) (w : World) (inside : ℕ → Band ℤ → ℤ → Progress → Progress)
    (grows : (b : ℕ) (cb : Band ℤ) (top : ℤ) (p : Progress) → ArePlacedAfter p.floats (inside b cb top p).floats) where
  of_float : (cb : Band ℤ) (top : ℤ) (p : Progress) (f : ℕ) → ArePlacedAfter p.floats (float_child tree w inside cb top p f).floats
  of_float cb top p f = float_next (floating tree f (independent tree w inside f (inline_size cb)).size cb) p.floats p.floats p.least _ none

  of_block : (cb : Band ℤ) (p : Progress) (b : ℕ) (r : Reached) → ArePlacedAfter p.floats (laid tree w inside cb p b r).after.floats
  of_block cb p b r = by (is_replaced_at tree b) (is_context_root tree b) refl refl
    where
      by : (x y : Bool) → is_replaced_at tree b ≡ x → is_context_root tree b ≡ y → ArePlacedAfter p.floats (laid tree w inside cb p b r).after.floats
      by true y e k = rw e none
      by false true e k = rw (e, k) none
      by false false e k = rw (e, k) (grows b _ _ _)

  of_child : (cb : Band ℤ) (top : ℤ) (p : Progress) (k : ℕ) → ArePlacedAfter p.floats (child tree w inside cb top p k).floats
  of_child cb top p k = by (is_floated_at tree k) refl
    where
      by : (x : Bool) → is_floated_at tree k ≡ x → ArePlacedAfter p.floats (child tree w inside cb top p k).floats
      by true e = rw e (of_float cb top p k)
      by false e = rw e (of_block cb p k (reached tree w inside cb p k))

  of_children : (cb : Band ℤ) (top : ℤ) (p : Progress) (ks : List ℕ) → ArePlacedAfter p.floats (fold (child tree w inside cb top) p ks).floats
  of_children cb top p [] = none
  of_children cb top p (k ∷ ks) = both p.floats (child tree w inside cb top p k).floats _ (of_child cb top p k) (of_children cb top (child tree w inside cb top p k) ks)

  pub of_step : (b : ℕ) (cb : Band ℤ) (top : ℤ) (p : Progress) → ArePlacedAfter p.floats (flow_step tree w inside b cb top p).floats
  of_step b cb top p = by (has_line tree b) refl
    where
      by : (x : Bool) → has_line tree b ≡ x → ArePlacedAfter p.floats (flow_step tree w inside b cb top p).floats
      by true e = rw e (of_lines (record { tree = tree; world = w; container = b; inner = table_of (length tree.boxes) (map (λ k. (k, inner_size tree w inside cb k)) (inner_boxes tree b)); cb = cb }) top (unwrap_or p.least top) p.floats)
      by false e = rw e (of_children cb top p (flow_children tree b))

pub of_flow : (tree : BoxTree) (w : World) (levels b : ℕ) (cb : Band ℤ) (top : ℤ) (p : Progress) → ArePlacedAfter p.floats (flow_to tree w levels b cb top p).floats
unfolding flow_to
of_flow tree w zero b cb top p = none
of_flow tree w (suc levels) b cb top p = of_step tree w (flow_to tree w levels) (of_flow tree w levels) b cb top p
