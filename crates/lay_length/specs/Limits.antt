use Rattle.std.specs.Prelude.{◌≡◌, Bool, ◌≤◌, length, None, IsTrue}
use Rattle.viz_base.specs.declared.limits.TheConstants.{MOST_BOXES, MOST_LAID_CHARACTERS, MOST_PIXELS, MOST_SIZE}
use Rattle.viz_base.specs.Trees.{character_count}
use Rattle.viz_base.specs.Reaches.{beyond_reach}
use Rattle.viz_base.specs.declared.trees.BoxTree.{BoxTree}
use Rattle.viz_calc.specs.World.{Reading}

-- a page of at most 16,384 boxes, none of which reaches further than 2^40 units
pub record IsSmallPage (tree : BoxTree) : Type 0 where
  pub few_boxes : length tree.boxes ≤ MOST_BOXES
  pub reach : beyond_reach tree.styles tree.parents tree.fonts tree.boxes ≡ None

-- a small page of at most 524,288 characters, in viewports of at most 16,384
-- pixels width and height, at default font sizes of at most 256 pixels
pub record IsWithinLimits (tree : BoxTree) (is_open : Reading → Bool) : Type 0 where
  pub small : IsSmallPage tree
  pub few_characters : character_count tree.boxes ≤ MOST_LAID_CHARACTERS
  pub narrow : (e : Reading) → IsTrue (is_open e) → e.world.w ≤ MOST_PIXELS
  pub low : (e : Reading) → IsTrue (is_open e) → e.world.h ≤ MOST_PIXELS
  pub sized : (e : Reading) → IsTrue (is_open e) → e.world.s ≤ MOST_SIZE
