use Rattle.std.specs.Prelude.{◌*◌, ℤ, pos, List, [], ◌∷◌}
use Rattle.viz_base.specs.declared.renderings.Rendering.{Rendering}
use Rattle.viz_base.specs.declared.trees.BoxNode.{BoxNode}
use Rattle.viz_base.specs.declared.trees.BoxTree.{BoxTree}
use Rattle.viz_base.specs.declared.worlds.World.{World}
use Rattle.layout_semantics.specs.Flow.{whole_independent}

-- The rendering of a page at a world: its root box and all in it, in document order. The containing
-- block of the root is as wide as the viewport (CSS 2.1, 10.1); the root starts a block formatting
-- context, and its margins collapse with nobody's (8.3.1).
abbrev pub page_rendering : BoxTree → World → Rendering ℤ
page_rendering tree w = by_boxes tree.boxes
  where
    by_boxes : List BoxNode → Rendering ℤ
    by_boxes [] = record { boxes = [] }
    by_boxes (root ∷ rest) = record { boxes = (whole_independent tree w 0 (pos (64 * w.w))).boxes }
