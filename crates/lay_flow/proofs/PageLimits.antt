-- On a page within the profile's limits what is computed fits.
use Rattle.std.proofs.Common.{ℕ, Bool, ◌≤◌, arith}
use Rattle.viz_base.specs.declared.trees.BoxTree.{BoxTree}
use Rattle.viz_base.specs.declared.worlds.World.{World}
use Rattle.viz_calc.specs.World.{Reading}
use Rattle.layout_semantics.specs.Order.{IsOnPage}
use Rattle.layout_semantics.proofs.Pages.{first-boxed, within-page}
use Rattle.lay_preferred.proofs.SmallBoxes.{boxes-fit}
use Rattle.lay_preferred.proofs.SmallPages.{small-boxes}
use Rattle.lay_length.specs.Limits.{IsWithinLimits}
use Rattle.lay_steps.proofs.InOrder.{root-whole}
use Rattle.page_limits.specs.Boxes.{IsWhole}
use Rattle.page_limits.proofs.HeightsSmall.{raises-small}
use Rattle.page_limits.proofs.PageSmall.{properties-small, inline-small}
use Rattle.page_limits.proofs.WidthsLevels.{IsFarPage}
use Rattle.page_limits.proofs.WidthsSmall.{far-page}
use Rattle.lay_flow.specs.IndependentFits.{PageComesFit}
use Rattle.lay_flow.specs.WalkFits.{AllFit}
use Rattle.lay_flow.proofs.BoxesFit.{shape-fit, height-fit, replaced-fit, lead-fit}
use Rattle.lay_flow.proofs.LinesFitting.{lines-fit}
use Rattle.lay_flow.proofs.PageComes.{page-comes-fit}
use Rattle.lay_flow.proofs.PageFits.{IsBoxFit, IsPageFit}

module _ (tree : BoxTree) (page : IsFarPage tree) (w : World) (sized : w.s ≤ 256) (narrow : w.w ≤ 16384) (flat : w.h ≤ 16384) where
  box-fit : (k : ℕ) → IsOnPage tree.boxes k → IsWhole tree k → IsBoxFit tree w k
  box-fit k on whole =
      let there = within-page tree k on in
      record {
        shape = shape-fit tree page w sized narrow flat k on whole;
        own_height = height-fit tree page w sized narrow flat k on whole;
        replaced = replaced-fit tree page w sized narrow flat k on whole;
        lead = lead-fit tree page w sized narrow flat k on whole;
        in_lines = λ e. lines-fit tree page (first-boxed tree (omega (arith, there))) w sized narrow flat k on whole;
      }

  page-fit : IsPageFit tree w
  page-fit = record {
    few_boxes = page.few_boxes;
    few_characters = page.few_characters;
    root = root-whole tree;
    boxes = properties-small tree page w sized narrow flat;
    raises = raises-small tree page.low w sized;
    lines = inline-small tree page w sized narrow flat;
    width = (omega (arith, narrow), tt);
    each = box-fit;
  }

pub within-limits-fits : (tree : BoxTree) (is_open : Reading → Bool) → IsWithinLimits tree is_open → AllFit tree is_open (λ e. PageComesFit tree e.world)
within-limits-fits tree is_open l = (
  boxes-fit tree is_open (small-boxes tree l.small is_open l.sized),
  λ e o. page-comes-fit tree e.world (page-fit tree (far-page tree l.small l.few_characters) e.world (l.sized e o) (l.narrow e o) (l.low e o)),
)
