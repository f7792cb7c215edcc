-- What a rendering's entries are of.
use Rattle.std.specs.Prelude.{ℕ, ℤ, ◌||◌, not, Bool, true, false}
use Rattle.std.specs.List.{list_all}
use Rattle.viz_base.specs.Trees.{is_floated, is_inline_level}
use Rattle.viz_base.specs.declared.renderings.Placed.{Placed}
use Rattle.viz_base.specs.declared.trees.BoxNode.{BoxNode}
use Rattle.viz_base.specs.declared.trees.BoxTree.{BoxTree}
use Rattle.viz_base.specs.declared.trees.Kind.{Kind}
use Rattle.viz_base.specs.declared.trees.Kind.TheVariants as of_kind
use Rattle.layout_semantics.specs.Blocks.{kind_of, node_of}

-- an entry's kind and its node
abbrev pub named_by : Placed ℤ → Kind × ℕ
named_by p = (p.kind, p.node)

-- those of a box of the tree
abbrev pub name_of : BoxTree → ℕ → Kind × ℕ
name_of tree at = (kind_of tree at, node_of tree at)

-- each box is a block-level one or a float (CSS 2.1, 9.2.1, 9.5)
abbrev pub holds_blocks_alone : BoxTree → Bool
holds_blocks_alone tree = list_all (λ (b : BoxNode). is_floated tree.styles b || not (is_inline_level b)) tree.boxes

-- a box that is rendered whole and once: inline boxes and texts are cut at the ends of
-- lines, a forced break has no entry, and a line is no box of the tree (9.2.2, 9.4.2)
abbrev pub is_whole : Kind → Bool
is_whole of_kind.Inline = false
is_whole of_kind.Chars = false
is_whole of_kind.Break = false
is_whole of_kind.Line = false
is_whole _ = true
