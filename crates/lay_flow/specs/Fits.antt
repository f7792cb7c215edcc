-- What is asked of a box, and of what is computed of it, that no number of the flow passes its limit.
use Rattle.std.specs.Prelude.{ℕ, suc, ◌^◌, ℤ, [], ◌∷◌}
use Rattle.viz_base.specs.declared.layouts.Entry.{Entry}
use Rattle.viz_base.specs.declared.layouts.Entry.TheVariants as of_entry
use Rattle.viz_base.specs.declared.layouts.Spot.{Spot}
use Rattle.viz_base.specs.declared.lengths.Length.{Length}
use Rattle.viz_base.specs.declared.trees.BoxTree.{BoxTree}
use Rattle.viz_base.specs.declared.worlds.World.{World}
use Rattle.viz_calc.specs.State.{AllSmall}
use Rattle.layout_semantics.specs.DefiniteHeights.{definite_height}
use Rattle.layout_semantics.specs.Flow.{content_height}
use Rattle.layout_semantics.specs.Horizontal.{placing_of, widths}
use Rattle.layout_semantics.specs.Preferred.{preferred}
use Rattle.layout_semantics.specs.Replaced.{by_ratio, intrinsic, replaced_size}
use Rattle.layout_semantics.specs.Verticals.{verticals}
use Rattle.lay_width.specs.Fitting.{VerticalsFit, ClampedFits, in_block, WidthsFit, DefiniteFits_to, HeightFits, GivenFits, ReplacedFits}
use Rattle.page_limits.specs.Bounds.{Bounds, all_around, IsPlacedIn}
use Rattle.page_limits.specs.Boxes.{AreWidthsSmall, AreSidesSmall, IsHeightClamped}
use Rattle.page_limits.specs.Inline.{IsSmall}
use Rattle.lay_flow.specs.Low.{reach}

-- ---- what comes of few numbers that are low

-- so far to each side
abbrev pub near : Bounds
near = all_around (2 ^ 95)

abbrev pub IsNear : ℤ → Type 0
IsNear z = IsSmall (2 ^ 95) z

pub record IsSpotNear (at : Spot ℤ) : Type 0 where
  pub x : IsNear at.x
  pub y : IsNear at.y

-- on a line: a box, or the place of one that is laid out by itself
abbrev pub IsEntryLow : Entry ℤ → Type 0
IsEntryLow (of_entry.Here p) = IsPlacedIn reach p
IsEntryLow (of_entry.Goes k at) = IsSpotNear at

-- ---- boxes, each by its world and the width of its containing block

module _ (tree : BoxTree) (w : World) (b : ℕ) where
  -- to a height of its own, where that is definite
  abbrev pub OwnFits : Length → Type 0
  OwnFits length = DefiniteFits_to (suc b) tree w b × HeightFits tree w (definite_height tree w b) length

  -- its height, given or of its content, and its maximum and minimum
  pub record IsHeightFit : Type 0 where
    pub given : GivenFits tree w b
    pub limits : ClampedFits tree w b (definite_height tree w b)
    pub clamped : (auto : ℤ) → IsHeightClamped (2 ^ 90) auto (content_height tree w b auto)

  -- its terms across and down, before its height
  pub record IsShapeFit (room : ℤ) : Type 0 where
    pub inline_size : WidthsFit (in_block tree w b room) (placing_of tree b) (preferred tree w b)
    pub down : VerticalsFit tree w b room
    pub widths : AreWidthsSmall (2 ^ 90) (widths tree w b room)
    pub sides : AreSidesSmall (2 ^ 90) (verticals tree w b room)

  -- the height of a replaced box
  pub record IsReplacedFit (room : ℤ) : Type 0 where
    pub own : IsHeightFit
    pub width : ReplacedFits tree w b room
    pub ratio : AllSmall
        (by_ratio (replaced_size tree w b room).width (intrinsic tree b).0 (intrinsic tree b).1 ∷ [])
    pub tall : IsSmall (2 ^ 90) (replaced_size tree w b room).height
