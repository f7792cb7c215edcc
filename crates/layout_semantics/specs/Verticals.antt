-- The terms of a box's height other than its content's (CSS 2.1, 8.3 to 8.5 and 10.6).
use Rattle.std.specs.Prelude.{ℕ, ℤ}
use Rattle.viz_base.specs.declared.lengths.Length.{Length}
use Rattle.viz_base.specs.declared.lengths.Sides.{Sides}
use Rattle.viz_base.specs.declared.trees.BoxTree.{BoxTree}
use Rattle.viz_base.specs.declared.worlds.World.{World}
use Rattle.layout_semantics.specs.Lengths.{used, margins, borders, paddings}

-- used margins, borders and paddings above and below the content
pub record Verticals : Type 0 where
  pub margin_top : ℤ
  pub border_top : ℤ
  pub padding_top : ℤ
  pub padding_bottom : ℤ
  pub border_bottom : ℤ
  pub margin_bottom : ℤ

-- a percentage of a margin or padding, a vertical one too, is of the containing block's
-- width, here `across` (8.3, 8.4); an auto margin above or below is 0 (10.6.2, 10.6.3)
unfoldable pub verticals : BoxTree → World → ℕ → ℤ → Verticals
verticals tree w b inline_size = by_sides (margins tree b) (borders tree b) (paddings tree b)
  where
    by_sides : Sides Length → Sides Length → Sides Length → Verticals
    by_sides margin border padding = record {
      margin_top = used tree w margin.top inline_size;
      border_top = used tree w border.top inline_size;
      padding_top = used tree w padding.top inline_size;
      padding_bottom = used tree w padding.bottom inline_size;
      border_bottom = used tree w border.bottom inline_size;
      margin_bottom = used tree w margin.bottom inline_size;
    }
