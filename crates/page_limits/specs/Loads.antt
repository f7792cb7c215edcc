-- How much a page has in a box: boxes, and characters.
use Rattle.std.specs.Prelude.{ℕ, ◌+◌, ◌*◌, ◌^◌, max, List, [], ◌∷◌, length}
use Rattle.viz_base.specs.declared.trees.BoxTree.{BoxTree}
use Rattle.layout_semantics.specs.InlineContent.{text_of}
use Rattle.layout_semantics.specs.Order.{document_order}
use Rattle.page_limits.specs.Bounds.{Bounds}

-- the greatest length of a box
abbrev pub greatest_length : ℕ
greatest_length = 2 ^ 45

-- how far one character can make a page go on, and a quarter of how far one box can
abbrev pub unit : ℕ
unit = 40 * (2 ^ 45 + 1)

-- four for a box, and one for each of its characters
abbrev pub weight : BoxTree → ℕ → ℕ
weight tree k = 4 + length (text_of tree k)

abbrev pub weights : BoxTree → List ℕ → ℕ
weights tree [] = 0
weights tree (k ∷ ks) = weight tree k + weights tree ks

-- of a box and all in it
abbrev pub load : BoxTree → ℕ → ℕ
load tree k = weights tree (document_order tree.boxes k)

-- up and down together, or to a side, if that is more
abbrev pub size_of : Bounds → ℕ
size_of b = max (b.up + b.down) b.aside
