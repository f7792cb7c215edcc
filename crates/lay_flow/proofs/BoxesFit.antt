-- What is computed of each box of a page within the limits fits.
use Rattle.std.proofs.Common.{◌≡◌, ℕ, ◌^◌, ◌≤◌, true, ℤ, pos, ◌-ℤ◌, arith}
use Rattle.std.specs.Prelude.{◌≤ℤ◌}
use Rattle.std.specs.Int.{int_max}
use Rattle.std.proofs.lemmas.Int.{ints, clamps}
use Rattle.viz_base.specs.declared.layouts.Band.{Band}
use Rattle.viz_base.specs.declared.trees.BoxTree.{BoxTree}
use Rattle.viz_base.specs.declared.worlds.World.{World}
use Rattle.layout_semantics.specs.Flow.{content_height}
use Rattle.layout_semantics.specs.FlowBoxes.{inline_size, is_replaced_at, room}
use Rattle.layout_semantics.specs.Horizontal.{widths}
use Rattle.layout_semantics.specs.Order.{IsOnPage}
use Rattle.layout_semantics.specs.Verticals.{verticals}
use Rattle.lay_margin.specs.Fitting.{BoxFits}
use Rattle.page_limits.specs.Boxes.{IsBoxSmall, IsHeightClamped, IsWhole}
use Rattle.page_limits.proofs.TermsWithin.{box-small}
use Rattle.page_limits.proofs.WidthsLevels.{IsFarPage}
use Rattle.page_limits.proofs.PageSmall.{properties-small}
use Rattle.page_limits.proofs.FitsHeights.{given-fits, clamped-fits}
use Rattle.page_limits.proofs.FitsBoxes.{widths-fit, down-fits, replaced-fits, by_width-fits, box-fits}
use Rattle.lay_flow.specs.Fits.{IsHeightFit, IsReplacedFit, IsShapeFit}
use Rattle.lay_flow.specs.Low.{IsBandLow}
use Rattle.lay_flow.proofs.WalkLow.{sides-low, widths-low}

clamped-low : (auto h : ℤ) → IsHeightClamped (2 ^ 42) auto h → IsHeightClamped (2 ^ 90) auto h
clamped-low auto h clamped = by (2 ^ 42) (2 ^ 90) clamped.from clamped.to (omega arith)
  where
    by : (t u : ℕ) → (pos 0 -ℤ pos t) ≤ℤ h → h ≤ℤ int_max auto (pos t) → t ≤ u → IsHeightClamped u auto h
    by t u from to l = record { from = omega (arith, ints, from, l); to = omega (arith, ints, clamps, to, l) }

module _ (tree : BoxTree) (page : IsFarPage tree) (w : World) (small : w.s ≤ 256) (narrow : w.w ≤ 16384) (flat : w.h ≤ 16384) (k : ℕ) (on : IsOnPage tree.boxes k) (whole : IsWhole tree k) where
  terms-small : IsBoxSmall tree w (2 ^ 42) k
  terms-small = box-small tree w (2 ^ 42) k (properties-small tree page w small narrow flat k on whole)

  pub shape-fit : IsShapeFit tree w k (room tree w k)
  shape-fit = record {
    inline_size = widths-fit tree page w small narrow flat k on whole;
    down = down-fits tree page w small narrow flat k on whole;
    widths = widths-low (2 ^ 42) (widths tree w k (room tree w k)) (omega arith) terms-small.widths;
    sides = sides-low (2 ^ 42) (verticals tree w k (room tree w k)) (omega arith) terms-small.sides;
  }

  pub height-fit : IsHeightFit tree w k
  height-fit = record {
    given = given-fits tree page w small narrow flat k on whole;
    limits = clamped-fits tree page w small narrow flat k on whole;
    clamped = λ auto. clamped-low auto (content_height tree w k auto) (terms-small.clamped auto);
  }

  pub replaced-fit : is_replaced_at tree k ≡ true → IsReplacedFit tree w k (room tree w k)
  replaced-fit e = record {
    own = height-fit;
    width = replaced-fits tree page w small narrow flat k on whole;
    ratio = by_width-fits tree page w small narrow flat k on whole;
    tall = let l = terms-small.replaced in omega (arith, l);
  }

  pub lead-fit : (cb : Band ℤ) → inline_size cb ≡ room tree w k → IsBandLow cb → BoxFits tree w cb k
  lead-fit cb same low = box-fits tree page w small narrow flat k on whole cb same low.left low.right
