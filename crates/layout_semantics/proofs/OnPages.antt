-- What an answer unfolds to compute the rendering of a page that is written out.
use Rattle.std.specs.Prelude.{⊤}
use Rattle.std.specs.Str.{chars}
use Rattle.viz_base.specs.FontSizes.{font_size_to}
use Rattle.layout_semantics.specs.Clearance.{resolve_to}
use Rattle.layout_semantics.specs.DefiniteHeights.{container_to, is_definite_to, definite_height_to, has_auto_height, has_no_minimum}
use Rattle.layout_semantics.specs.FlowBoxes.{is_replaced_at, is_context_root, is_block_level_at, stands_clear_of_floats, clear_of, is_open_above, is_open_below, may_collapse_through, joins_last_child}
use Rattle.layout_semantics.specs.Horizontal.{widths}
use Rattle.layout_semantics.specs.Flow.{flow_to}
use Rattle.layout_semantics.specs.InlineContent.{is_floated_at, is_inline_level_at, holds_inline, items_to, has_line}
use Rattle.layout_semantics.specs.Leads.{lead_to}
use Rattle.layout_semantics.specs.LineHeights.{shift_to}
use Rattle.layout_semantics.specs.Lines.{lines_to}
use Rattle.layout_semantics.specs.Order.{order_to}
use Rattle.layout_semantics.specs.Preferred.{preferred_to}
use Rattle.layout_semantics.specs.Segments.{wraps}
use Rattle.layout_semantics.specs.Verticals.{verticals}

unfoldable pub renderings_on_pages : ⊤
unfolding chars lib.Utf8.encode font_size_to resolve_to container_to is_definite_to definite_height_to has_auto_height has_no_minimum is_replaced_at is_context_root is_block_level_at stands_clear_of_floats clear_of is_open_above is_open_below may_collapse_through joins_last_child widths flow_to is_floated_at is_inline_level_at holds_inline items_to has_line lead_to shift_to lines_to order_to preferred_to wraps verticals
renderings_on_pages = tt
