use Rattle.std.specs.Prelude.{ℕ, zero, suc, List, [], ◌∷◌, length, slice_get, Contains}
use Rattle.std.specs.List.{flat_map}
use Rattle.std.specs.Option.{option_map_or}
use Rattle.viz_base.specs.declared.trees.BoxNode.{BoxNode}

-- the places of the boxes in a box
abbrev pub kids_of : List BoxNode → ℕ → List ℕ
kids_of boxes at = option_map_or (λ (b : BoxNode). b.kids) (slice_get boxes at) []

-- a box, and then the orders of those in it, down to so many levels
unfoldable pub order_to : ℕ → List BoxNode → ℕ → List ℕ
order_to zero boxes at = []
order_to (suc levels) boxes at = at ∷ flat_map (order_to levels boxes) (kids_of boxes at)

-- document order (CSS 2.1, 3.1): a box, and then the orders of those in it; a page has no more levels than boxes
abbrev pub document_order : List BoxNode → ℕ → List ℕ
document_order boxes at = order_to (length boxes) boxes at

-- the first box is the root's, where there is one
abbrev pub roots : List BoxNode → List ℕ
roots [] = []
roots (b ∷ bs) = 0 ∷ []

-- the boxes of a page in document order
abbrev pub page_order : List BoxNode → List ℕ
page_order boxes = flat_map (document_order boxes) (roots boxes)

-- a box is part of the page: it is the root's, or in a box that is
pub data IsOnPage (boxes : List BoxNode) : ℕ → Type 0 where
  root : (at : ℕ) → Contains (roots boxes) at → IsOnPage boxes at
  inside : (at kid : ℕ) → IsOnPage boxes at → Contains (kids_of boxes at) kid → IsOnPage boxes kid
