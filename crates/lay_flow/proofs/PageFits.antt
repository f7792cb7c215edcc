-- What is asked of a page, box by box, so that no number that is computed of it passes its limit.
use Rattle.std.specs.Prelude.{◌≡◌, ◌≤◌, ◌^◌, ℕ, ℤ, pos, ◌*◌, true, [], ◌∷◌, length, chars, sum_by, unwrap_or}
use Rattle.std.specs.List.{AllByRecursion}
use Rattle.std.specs.Option.{option_to_list}
use Rattle.viz_base.specs.declared.layouts.Band.{Band}
use Rattle.viz_base.specs.declared.trees.BoxNode.{BoxNode}
use Rattle.viz_base.specs.declared.trees.BoxTree.{BoxTree}
use Rattle.viz_base.specs.declared.worlds.World.{World}
use Rattle.viz_calc.specs.State.{AllSmall}
use Rattle.layout_semantics.specs.Flow.{Independent}
use Rattle.layout_semantics.specs.FlowBoxes.{inline_size, is_replaced_at, room}
use Rattle.layout_semantics.specs.Horizontal.{widths}
use Rattle.layout_semantics.specs.InlineContent.{has_line}
use Rattle.layout_semantics.specs.Order.{IsOnPage}
use Rattle.lay_line.specs.LinesFit.{LinesFit}
use Rattle.lay_margin.specs.Fitting.{BoxFits}
use Rattle.page_limits.specs.Bounds.{IsBandIn, IsFloatIn, IsLevelIn, all_around}
use Rattle.page_limits.specs.Boxes.{ArePropertiesSmall, IsIndependentIn, IsInlineBoxSmall, IsWhole}
use Rattle.page_limits.specs.Raises.{AreRaisesSmall}
use Rattle.lay_steps.specs.Flow.{Context}
use Rattle.lay_flow.specs.Fits.{IsHeightFit, IsReplacedFit, IsShapeFit}
use Rattle.lay_flow.specs.Low.{IsBandLow}
use Rattle.lay_flow.specs.WalkFits.{inline_context}

module _ (tree : BoxTree) (w : World) where
  -- a box that is laid out whole, in its containing block
  pub record IsBoxFit (k : ℕ) : Type 0 where
    pub shape : IsShapeFit tree w k (room tree w k)
    pub own_height : IsHeightFit tree w k
    pub replaced : is_replaced_at tree k ≡ true → IsReplacedFit tree w k (room tree w k)
    pub lead : (cb : Band ℤ) → inline_size cb ≡ room tree w k → IsBandLow cb → BoxFits tree w cb k
    pub in_lines : has_line tree k ≡ true → (apart : ℕ → Independent) (cb : Band ℤ) (top : ℤ) (s : Context) → ((j : ℕ) → IsIndependentIn (all_around (2 ^ 72)) (2 ^ 72) (apart j))
        → inline_size cb ≡ (widths tree w k (room tree w k)).content → IsBandIn (all_around (2 ^ 81)) cb → IsLevelIn (all_around (2 ^ 81)) top
        → AllByRecursion (IsFloatIn (all_around (2 ^ 81))) s.floats → AllByRecursion (IsLevelIn (all_around (2 ^ 81))) (option_to_list s.least)
        → LinesFit (inline_context tree w apart k cb) top (unwrap_or s.least top) s.floats

  -- how far it goes on, and what is computed of each box
  pub record IsPageFit : Type 0 where
    pub few_boxes : length tree.boxes ≤ 16384
    pub few_characters : sum_by (λ (b : BoxNode). length (chars b.chars)) tree.boxes ≤ 524288
    pub root : IsWhole tree 0
    pub boxes : (k : ℕ) → IsOnPage tree.boxes k → IsWhole tree k → ArePropertiesSmall tree w (2 ^ 42) k
    pub raises : AreRaisesSmall tree w (2 ^ 42)
    pub lines : (k : ℕ) → IsOnPage tree.boxes k → IsInlineBoxSmall tree w (2 ^ 42) k
    pub width : AllSmall (pos (64 * w.w) ∷ [])
    pub each : (k : ℕ) → IsOnPage tree.boxes k → IsWhole tree k → IsBoxFit k
