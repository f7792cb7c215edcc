use Rattle.std.specs.Prelude.{ℕ, ℤ, List, slice_get, Option}
use Rattle.std.specs.Option.{option_map_or, option_and_then}
use Rattle.viz_base.specs.declared.renderings.Placed.{Placed}
use Rattle.viz_base.specs.declared.renderings.Quad.{Quad}
use Rattle.viz_base.specs.declared.styles.Style.{Style}
use Rattle.viz_base.specs.declared.trees.BoxNode.{BoxNode}
use Rattle.viz_base.specs.declared.trees.BoxTree.{BoxTree}
use Rattle.viz_base.specs.declared.trees.Kind.{Kind}
use Rattle.viz_base.specs.declared.trees.Kind.TheVariants as of_kind

-- ---- what the tree says of a box

abbrev pub kind_of : BoxTree → ℕ → Kind
kind_of tree at = option_map_or (λ (b : BoxNode). b.kind) (slice_get tree.boxes at) of_kind.Block

abbrev pub node_of : BoxTree → ℕ → ℕ
node_of tree at = option_map_or (λ (b : BoxNode). b.node) (slice_get tree.boxes at) 0

abbrev pub parent_of : List BoxNode → ℕ → Option ℕ
parent_of boxes at = option_and_then (λ (b : BoxNode). b.parent) (slice_get boxes at)

abbrev pub style_of : BoxTree → ℕ → Option Style
style_of tree at = option_and_then (λ (b : BoxNode). slice_get tree.styles b.node) (slice_get tree.boxes at)

-- a box whose four rectangles are the same, since it has no margin, border and padding (CSS 2.1, 8.1)
abbrev pub plain_box : Kind → ℕ → Quad ℤ → Placed ℤ
plain_box kind node q = record { kind = kind; node = node; margin = q; border = q; padding = q; content = q }
