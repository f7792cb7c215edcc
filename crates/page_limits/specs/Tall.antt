-- What the properties of a box give up and down, and the measures of its font.
use Rattle.std.specs.Prelude.{◌≡◌, ℕ, ℤ, pos, List, Some, unwrap_or}
use Rattle.viz_base.specs.declared.trees.BoxTree.{BoxTree}
use Rattle.viz_base.specs.declared.worlds.World.{World}
use Rattle.layout_semantics.specs.Blocks.{node_of}
use Rattle.layout_semantics.specs.DefiniteHeights.{definite_height, given_height, height_around, least_height}
use Rattle.layout_semantics.specs.FlowBoxes.{room}
use Rattle.layout_semantics.specs.Fonts.{ascent, descent, text_width}
use Rattle.layout_semantics.specs.InlineContent.{text_of}
use Rattle.layout_semantics.specs.LineHeights.{inline_extent}
use Rattle.layout_semantics.specs.Replaced.{replaced_size}
use Rattle.page_limits.specs.Boxes.{IsPartOf}
use Rattle.page_limits.specs.Inline.{IsSmall}

-- each height of a box is at most so large
pub record AreHeightsBounded (tree : BoxTree) (w : World) (most k : ℕ) : Type 0 where
  pub replaced_height : IsSmall most (replaced_size tree w k (room tree w k)).height
  pub given_height : (h : ℤ) → given_height tree w k ≡ Some h → IsSmall most h
  pub least_height : IsSmall most
      (unwrap_or (height_around tree w (definite_height tree w k) (least_height tree k)) (pos 0))

-- so is each measure of a box's font, and each part of its text
pub record AreFontsBounded (tree : BoxTree) (w : World) (most k : ℕ) : Type 0 where
  pub ascent : IsSmall most (ascent tree w (node_of tree k))
  pub descent : IsSmall most (descent tree w (node_of tree k))
  pub above : IsSmall most (inline_extent tree w (node_of tree k)).above
  pub below : IsSmall most (inline_extent tree w (node_of tree k)).below
  pub text : (part : List ℕ) → IsPartOf part (text_of tree k) → IsSmall most (text_width tree w (node_of tree k) part)
