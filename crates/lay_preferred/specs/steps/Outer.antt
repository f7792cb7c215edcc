-- What boxes take in the preferred widths of their container, in the order in which it is computed.
use Rattle.std.specs.Prelude.{ℕ, ℤ, ◌+ℤ◌, Bool, true, false, ◌&&◌, map}
use Rattle.viz_base.specs.declared.layouts.Preferred.{Preferred}
use Rattle.viz_base.specs.declared.lengths.Length.{Length}
use Rattle.viz_base.specs.declared.lengths.Length.TheVariants as of_length
use Rattle.viz_base.specs.declared.trees.BoxTree.{BoxTree}
use Rattle.viz_base.specs.declared.trees.Kind.{Kind}
use Rattle.viz_base.specs.declared.trees.Kind.TheVariants as of_kind
use Rattle.viz_base.specs.declared.worlds.World.{World}
use Rattle.layout_semantics.specs.Blocks.{kind_of}
use Rattle.layout_semantics.specs.InlineContent.{start_edges, end_edges}
use Rattle.layout_semantics.specs.Lengths.{total}
use Rattle.layout_semantics.specs.Preferred.{absolute_part, outer_edges, clamped_absolute, outer_preferred, preferred}
use Rattle.layout_semantics.specs.Replaced.{preferred_replaced}
use Rattle.lay_width.specs.Fitting.{own_width_of}

-- a width that is both
abbrev pub both : ℤ → Preferred ℤ
both x = record { least = x; most = x }

unfoldable pub edge : BoxTree → World → Length → ℤ
edge tree w length = absolute_part tree w length

unfoldable pub start_of : BoxTree → World → ℕ → ℤ
start_of tree w at = total (map (absolute_part tree w) (start_edges tree at))

unfoldable pub end_of : BoxTree → World → ℕ → ℤ
end_of tree w at = total (map (absolute_part tree w) (end_edges tree at))

unfoldable pub edges_of : BoxTree → World → ℕ → ℤ
edges_of tree w at = outer_edges tree w at

unfoldable pub clamped_of : BoxTree → World → ℕ → ℤ → ℤ
clamped_of tree w at x = clamped_absolute tree w at x

-- clamped and with its edges
unfoldable pub with_edges : BoxTree → World → ℕ → ℤ → ℤ
with_edges tree w at x = clamped_of tree w at x +ℤ edges_of tree w at

-- the width of a box is what its `width` says: the box isn't replaced, and that is neither a percentage nor `auto`
abbrev pub has_own : Kind → Bool
has_own of_kind.Replaced = false
has_own kind = true

abbrev pub is_absolute : Length → Bool
is_absolute of_length.Auto = false
is_absolute (of_length.Pct p) = false
is_absolute length = true

unfoldable pub is_given : BoxTree → ℕ → Bool
is_given tree at = has_own (kind_of tree at) && is_absolute (own_width_of tree at)

unfoldable pub given : BoxTree → World → ℕ → Preferred ℤ
given tree w at = both (with_edges tree w at (edge tree w (own_width_of tree at)))

unfoldable pub around : BoxTree → World → ℕ → Preferred ℤ → Preferred ℤ
around tree w at inside = record { least = with_edges tree w at inside.least; most = with_edges tree w at inside.most }

unfoldable pub replaced : BoxTree → World → ℕ → Preferred ℤ
replaced tree w at = both (preferred_replaced tree w at)

-- a box of the page with its edges
unfoldable pub outer : BoxTree → World → ℕ → Preferred ℤ
outer tree w at = outer_preferred tree w at (preferred tree w at)
