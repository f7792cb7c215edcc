use Rattle.std.proofs.Common.{◌≡◌, ◌++◌, map, zip, drop}
use Rattle.std.specs.List.{enumerate_from}
use Rattle.layout_semantics.specs.BoxTrees.{tree_style_of}
use Rattle.page_boxes.proofs.styles.tree_styles.Given as goal

abbrev pub invariant-loop-at : goal.invariant-loop-at
invariant-loop-at l = l.used ++ map (tree_style_of l.clip) (zip (enumerate_from l.at (drop l.at l.nodes)) (drop l.at l.styles)) ≡ map (tree_style_of l.clip) (zip (enumerate_from 0 l.nodes) l.styles)
