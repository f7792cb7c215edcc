-- Font sizes, line heights and the widths of texts (CSS 2.1, 10.8.1, 15.7), of the nodes of a tree at a world.
use Rattle.std.specs.Prelude.{ℕ, ℤ, List}
use Rattle.viz_base.specs.FontSizes.{font_size_in, line_height_in, ascent_in, descent_in, text_width_in}
use Rattle.viz_base.specs.declared.trees.BoxTree.{BoxTree}
use Rattle.viz_base.specs.declared.worlds.World.{World}

abbrev pub font_size : BoxTree → World → ℕ → ℤ
font_size tree w node = font_size_in tree.styles tree.parents w.s node

abbrev pub line_height : BoxTree → World → ℕ → ℤ
line_height tree w node = line_height_in tree.styles tree.parents w.s node

abbrev pub ascent : BoxTree → World → ℕ → ℤ
ascent tree w node = ascent_in tree.styles tree.parents tree.fonts w.s node

abbrev pub descent : BoxTree → World → ℕ → ℤ
descent tree w node = descent_in tree.styles tree.parents tree.fonts w.s node

abbrev pub text_width : BoxTree → World → ℕ → List ℕ → ℤ
text_width tree w node text = text_width_in tree.styles tree.parents tree.fonts w.s node text
