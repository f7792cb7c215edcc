-- The walks over boxes that find one for which a page is refused.
use Rattle.std.specs.Prelude.{ℕ, Bool, false, ◌&&◌, List, [], ◌∷◌, slice_set, Option, Some, None, if◌then◌else◌}
use Rattle.viz_base.specs.Trees.{is_inline}
use Rattle.layout_semantics.specs.BoxTrees.{is_block_part}
use Rattle.layout_semantics.specs.Directions.{is_right_to_left}
use Rattle.layout_semantics.specs.Parts.{Part}
use Rattle.page_boxes.specs.steps.Tables.{held}

abbrev pub inline_nodes : List Bool → List Part → List Bool
inline_nodes table [] = table
inline_nodes table (p ∷ ps) = inline_nodes (slice_set table p.node (is_inline p.kind)) ps

abbrev pub block_in : List Bool → List Part → Option ℕ
block_in table [] = None
block_in table (p ∷ ps) = if is_block_part p && held table p.parent false then Some p.node else block_in table ps

abbrev pub first_turned : List ℕ → Option ℕ
first_turned [] = None
first_turned (c ∷ cs) = if is_right_to_left c then Some c else first_turned cs

abbrev pub turned_by : ℕ → Option ℕ → Option (ℕ × ℕ) → Option (ℕ × ℕ)
turned_by node (Some c) rest = Some (node, c)
turned_by node None rest = rest

abbrev pub turned_in : Part → Option (ℕ × ℕ) → Option (ℕ × ℕ)
turned_in p rest = turned_by p.node (first_turned p.text) rest

abbrev pub turned : List Part → Option (ℕ × ℕ)
turned [] = None
turned (p ∷ ps) = turned_in p (turned ps)
