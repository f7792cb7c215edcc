-- The exact values on the way to a length: a calc may report a coefficient past its limit where one of them passes it.
use Rattle.std.specs.Prelude.{ℕ, zero, suc, ℤ, pos, List, [], ◌∷◌, Option}
use Rattle.std.specs.Option.{option_map_or}
use Rattle.std.specs.Prelude.{slice_get}
use Rattle.viz_base.specs.declared.lengths.Length.{Length}
use Rattle.viz_base.specs.declared.lengths.Length.TheVariants as of_length
use Rattle.viz_base.specs.declared.lengths.LineHeight.{LineHeight}
use Rattle.viz_base.specs.declared.lengths.LineHeight.TheVariants as of_line
use Rattle.viz_base.specs.declared.styles.Style.{Style}
use Rattle.viz_base.specs.declared.trees.BoxTree.{BoxTree}
use Rattle.viz_base.specs.declared.worlds.World.{World}
use Rattle.viz_base.specs.FontSizes.{default_size, parent_in, font_size_in}
use Rattle.layout_semantics.specs.Fonts.{line_height}
use Rattle.layout_semantics.specs.Lengths.{used}

-- the default font size, and those of a node and of the nodes that it is in, up so many levels
unfoldable pub size_way_to : ℕ → List Style → List (Option ℕ) → ℕ → ℕ → List ℤ
size_way_to zero styles parents s node = []
size_way_to (suc levels) styles parents s node =
    default_size s ∷ font_size_in styles parents s node
    ∷ option_map_or (size_way_to levels styles parents s) (parent_in parents node) []

abbrev pub size_way_in : List Style → List (Option ℕ) → ℕ → ℕ → List ℤ
size_way_in styles parents s node = size_way_to (suc node) styles parents s node

-- to a font size
abbrev pub size_way : BoxTree → World → ℕ → List ℤ
size_way tree w node = size_way_in tree.styles tree.parents w.s node

-- to a value that is a part of a node's font size
abbrev pub part_way : BoxTree → World → ℕ → ℤ → List ℤ
part_way tree w node value = value ∷ size_way tree w node

-- to a line height
abbrev pub line_way : BoxTree → World → ℕ → List ℤ
line_way tree w node = option_map_or (λ (s : Style). by_line s.line) (slice_get tree.styles node) (pos 0 ∷ [])
  where
    by_line : LineHeight → List ℤ
    by_line (of_line.Own num den) = part_way tree w node (line_height tree w node)
    by_line (of_line.Px c) = line_height tree w node ∷ []
    by_line (of_line.OfNode from num den) = part_way tree w from (line_height tree w node)

-- to a used length
abbrev pub used_way : BoxTree → World → Length → ℤ → List ℤ
used_way tree w (of_length.Em k node) cb = part_way tree w node (used tree w (of_length.Em k node) cb)
used_way tree w length cb = used tree w length cb ∷ []
