-- What the properties of a box of a page within its limits give is small, all together, and so are the page's coordinates.
use Rattle.std.proofs.Common.{ℕ, ◌^◌, ◌≤◌, length}
use Rattle.std.specs.Prelude.{chars, sum_by}
use Rattle.std.specs.List.{AllByRecursion}
use Rattle.viz_base.specs.declared.trees.BoxNode.{BoxNode}
use Rattle.viz_base.specs.declared.trees.BoxTree.{BoxTree}
use Rattle.viz_base.specs.declared.worlds.World.{World}
use Rattle.layout_semantics.specs.Order.{IsOnPage}
use Rattle.layout_semantics.specs.Page.{page_rendering}
use Rattle.lay_length.specs.Limits.{IsSmallPage}
use Rattle.lay_steps.proofs.InOrder.{root-whole}
use Rattle.page_limits.specs.Bounds.{IsPlacedIn, all_around}
use Rattle.page_limits.specs.Boxes.{ArePropertiesSmall, IsInlineBoxSmall, IsWhole}
use Rattle.page_limits.proofs.WholePage.{page-within}
use Rattle.page_limits.proofs.WidthsLevels.{IsFarPage}
use Rattle.page_limits.proofs.WidthsSmall.{far-page, whole-bounded, inline-bounded}
use Rattle.page_limits.proofs.HeightsSmall.{heights-bounded, fonts-bounded, raises-small}

module _ (tree : BoxTree) (page : IsFarPage tree) (w : World) (small : w.s ≤ 256) (narrow : w.w ≤ 16384) (flat : w.h ≤ 16384) where
  pub properties-small : (k : ℕ) → IsOnPage tree.boxes k → IsWhole tree k → ArePropertiesSmall tree w (2 ^ 42) k
  properties-small k on e =
      let inline_size = whole-bounded tree page w small narrow flat k on e in
      let tall = heights-bounded tree page w small narrow flat k on e in
      record {
        edges = inline_size.edges;
        width = inline_size.width;
        least = inline_size.least;
        preferred_least = inline_size.preferred_least;
        preferred_most = inline_size.preferred_most;
        replaced_width = inline_size.replaced_width;
        replaced_height = tall.replaced_height;
        sides = inline_size.sides;
        given_height = tall.given_height;
        least_height = tall.least_height;
      }

  pub inline-small : (k : ℕ) → IsOnPage tree.boxes k → IsInlineBoxSmall tree w (2 ^ 42) k
  inline-small k on =
      let font = fonts-bounded tree page.low w small k on in
      record {
        ascent = font.ascent;
        descent = font.descent;
        above = font.above;
        below = font.below;
        edges = λ is. inline-bounded tree page w small narrow flat k on is;
        text = font.text;
      }

pub coordinates-small : (tree : BoxTree) (w : World) → IsSmallPage tree → sum_by (λ (b : BoxNode). length (chars b.chars)) tree.boxes ≤ 524288
    → w.w ≤ 16384 → w.s ≤ 256 → w.h ≤ 16384 → AllByRecursion (IsPlacedIn (all_around (2 ^ 70))) (page_rendering tree w).boxes
coordinates-small tree w small short narrow sized flat =
    let page = far-page tree small short in
    page-within tree w (root-whole tree) (properties-small tree page w sized narrow flat) (inline-small tree page w sized narrow flat) (raises-small tree page.low w sized) page.few_boxes page.few_characters
