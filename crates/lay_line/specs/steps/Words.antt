-- Names for what the steps over measured items are made of.
use Rattle.std.specs.Prelude.{ℕ, ℤ, Bool, List, ◌+ℤ◌, ◌-ℤ◌}
use Rattle.viz_base.specs.declared.layouts.Band.{Band}
use Rattle.viz_base.specs.declared.layouts.Extent.{Extent}
use Rattle.viz_base.specs.declared.layouts.Spot.{Spot}
use Rattle.viz_base.specs.declared.lengths.Valign.{Valign}
use Rattle.viz_base.specs.declared.trees.BoxTree.{BoxTree}
use Rattle.layout_semantics.specs.Floats.{FloatBox, band_at}
use Rattle.layout_semantics.specs.InlineContent.{Item, makes_line}
use Rattle.layout_semantics.specs.LineHeights.{InlineContext, LineExtent, inline_extent, box_extent, raise, shift, strut}
use Rattle.layout_semantics.specs.Blocks.{node_of}
use Rattle.layout_semantics.specs.LineFilling.{item_width, float_size, line_spot, line_float}
use Rattle.layout_semantics.specs.Floats.{with_float_at}

-- ---- widths and heights

unfoldable pub width_in : InlineContext → Item → ℤ
width_in c i = item_width c i

unfoldable pub own_reach : InlineContext → ℕ → LineExtent
own_reach c at = box_extent c at

unfoldable pub raise_in : InlineContext → (node parent_node : ℕ) → LineExtent → Valign → ℤ
raise_in c node parent e v = raise c node parent e v

unfoldable pub raised : InlineContext → ℕ → LineExtent → ℤ
raised c at e = shift c at e

unfoldable pub inline_raised : InlineContext → ℕ → ℤ
inline_raised c at = raised c at (inline_extent c.tree c.world (node_of c.tree at))

unfoldable pub reach_in : InlineContext → ℕ → LineExtent
reach_in c at = record {
  above = (own_reach c at).above +ℤ raised c at (own_reach c at);
  below = (own_reach c at).below -ℤ raised c at (own_reach c at);
}

unfoldable pub strut_in : InlineContext → LineExtent
strut_in c = strut c

unfoldable pub makes : BoxTree → Item → Bool
makes tree i = makes_line tree i

-- ---- floats

unfoldable pub size_in : InlineContext → ℕ → Extent ℤ
size_in c at = float_size c at

unfoldable pub spot_in : InlineContext → List FloatBox → ℤ → ℤ → ℕ → Spot ℤ
spot_in c floats least y at = line_spot c floats least y at

unfoldable pub floats_with : InlineContext → List FloatBox → ℕ → Spot ℤ → List FloatBox
floats_with c floats at spot = with_float_at (line_float c at) floats spot

unfoldable pub room_in : InlineContext → List FloatBox → ℤ → ℤ → Band ℤ
room_in c floats y tall = band_at floats c.cb y tall
