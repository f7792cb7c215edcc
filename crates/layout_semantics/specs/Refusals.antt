-- Pages that get no box tree, in the order in which they are refused: our own.
use Rattle.std.specs.Prelude.{ℕ, nat_lt, Bool, true, false, ◌&&◌, ◌==◌, List, [], ◌∷◌, map, length, flat_map, filter, Option, Some, option_map}
use Rattle.std.specs.List.{list_any}
use Rattle.std.specs.Option.{option_map_or}
use Rattle.viz_base.specs.declared.limits.TheConstants.{MOST_BOXES}
use Rattle.viz_base.specs.Trees.{is_inline}
use Rattle.viz_base.specs.declared.fonts.Font.{Font}
use Rattle.viz_base.specs.declared.nodes.Node.{Node}
use Rattle.viz_base.specs.declared.styles.Style.{Style}
use Rattle.viz_base.specs.declared.trees.BoxNode.{BoxNode}
use Rattle.layout_semantics.specs.Directions.{is_right_to_left}
use Rattle.layout_semantics.specs.Parts.{Part}
use Rattle.layout_semantics.specs.BoxTrees.{is_block_part, page_parts, page_boxes, tree_styles, tree_parents}
use Rattle.viz_base.specs.Reaches.{beyond_reach}

pub data BoxRefusal : Type 0 where
  -- a block-level box in normal flow that is directly in an inline box
  block_in_inline : (node : ℕ) → BoxRefusal
  -- a text with a character that is written from right to left
  right_to_left : (node c : ℕ) → BoxRefusal
  -- more than 16,384 boxes
  too_many_boxes : BoxRefusal
  -- a box with which the page reaches too far
  reach : (node : ℕ) → BoxRefusal

-- the node's box is an inline box
abbrev pub is_inline_box : List Part → ℕ → Bool
is_inline_box parts node = list_any (λ (p : Part). p.node == node && is_inline p.kind) parts

-- block-level boxes in normal flow that are directly in an inline box, which CSS 2.1, 9.2.1.1, would break around them
abbrev pub blocks_in_inlines : List Part → List Part
blocks_in_inlines parts =
    filter (λ (p : Part). is_block_part p && option_map_or (is_inline_box parts) p.parent false) parts

-- the characters of texts that are written from right to left, each with its node
abbrev pub right_to_left_letters : List Part → List (ℕ × ℕ)
right_to_left_letters parts = flat_map (λ (p : Part). map (λ c. (p.node, c)) (filter is_right_to_left p.text)) parts

-- the first refusal in this order, at the first node, and there at the first character
abbrev pub first_refusal : List Part → List (ℕ × ℕ) → (too_many : Bool) → Option ℕ → Option BoxRefusal
first_refusal (p ∷ ps) letters too_many far = Some (BoxRefusal.block_in_inline p.node)
first_refusal [] (l ∷ ls) too_many far = Some (BoxRefusal.right_to_left l.0 l.1)
first_refusal [] [] true far = Some BoxRefusal.too_many_boxes
first_refusal [] [] false far = option_map BoxRefusal.reach far

abbrev pub refusal_of : List Part → List BoxNode → Option ℕ → Option BoxRefusal
refusal_of parts boxes far =
    first_refusal (blocks_in_inlines parts) (right_to_left_letters parts) (nat_lt MOST_BOXES (length boxes)) far

-- why a page with these styles and fonts gets no box tree, if it gets none
abbrev pub page_refusal : List Node → List Style → List Font → Option BoxRefusal
page_refusal nodes styles fonts =
    refusal_of (page_parts nodes styles) (page_boxes nodes styles)
    (beyond_reach (tree_styles nodes styles) (tree_parents nodes) fonts (page_boxes nodes styles))
