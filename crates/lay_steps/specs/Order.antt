-- Boxes that are numbered in document order (CSS 2.1, 3.1): those in a box stand before the next box.
use Rattle.std.specs.Prelude.{ℕ, zero, suc, Bool, true, ◌&&◌, nat_lt, List, [], ◌∷◌, length}
use Rattle.std.specs.List.{list_all, range_with_len}
use Rattle.viz_base.specs.declared.trees.BoxNode.{BoxNode}
use Rattle.viz_base.specs.declared.trees.BoxTree.{BoxTree}
use Rattle.layout_semantics.specs.Order.{kids_of}

-- the box after one, where there is one, else where all end
abbrev pub next_of : List ℕ → ℕ → ℕ
next_of [] end = end
next_of (k ∷ ks) end = k

-- each of these boxes passes with the place before which it ends
abbrev pub each_before_next : (ℕ → ℕ → Bool) → List ℕ → ℕ → Bool
each_before_next test [] end = true
each_before_next test (k ∷ ks) end = test k (next_of ks end) && each_before_next test ks end

-- a box stands before this place, and so do all in it, down to so many levels
unfoldable pub is_before_to : ℕ → List BoxNode → ℕ → ℕ → Bool
is_before_to zero boxes at end = nat_lt at end
is_before_to (suc levels) boxes at end = nat_lt at end
    && each_before_next (is_before_to levels boxes) (kids_of boxes at) end

abbrev pub is_before : List BoxNode → ℕ → ℕ → Bool
is_before boxes at end = is_before_to (length boxes) boxes at end

-- the boxes of a tree in their order
abbrev pub is_in_order : BoxTree → Bool
is_in_order tree = list_all (λ at. is_before tree.boxes at (length tree.boxes)) (range_with_len 0 (length tree.boxes))
