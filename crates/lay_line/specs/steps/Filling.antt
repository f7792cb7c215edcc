-- How much a line holds, in one pass over the segments.
use Rattle.std.specs.Prelude.{ℕ, suc, Bool, true, false, not, ◌&&◌, ◌||◌, List, [], ◌∷◌, fold}
use Rattle.std.specs.Int.{int_max}
use Rattle.std.specs.List.{list_any}
use Rattle.layout_semantics.specs.Floats.{band_at}
use Rattle.layout_semantics.specs.InlineContent.{Item, start, atomic, float_boxes, makes_line}
use Rattle.layout_semantics.specs.Segments.{is_forced}
use Rattle.layout_semantics.specs.LineHeights.{InlineContext, LineExtent, extent_in_line, strut}
use Rattle.layout_semantics.specs.LineFilling.{Line, Met, fits, meet, item_width, from_line_on}
use Rattle.layout_semantics.specs.Lines.{opened_after}
use Rattle.lay_line.specs.steps.Held.{Held, nothing_held, with_items}
use Rattle.lay_line.specs.steps.Staying.{Span, no_items, spanned}

-- ---- heights so far

abbrev pub with_extent : LineExtent → LineExtent → LineExtent
with_extent e more = record { above = int_max more.above e.above; below = int_max more.below e.below }

abbrev pub with_box : InlineContext → LineExtent → ℕ → LineExtent
with_box c e at = with_extent e (extent_in_line c at)

abbrev pub with_item_box : InlineContext → LineExtent → Item → LineExtent
with_item_box c e (start at) = with_box c e at
with_item_box c e (atomic at) = with_box c e at
with_item_box c e _ = e

-- of a line that begins with these inline boxes open
abbrev pub extent_at_start : InlineContext → List ℕ → LineExtent
extent_at_start c opened = fold (with_box c) (strut c) opened

-- a line with some of its segments: how many, and of how many items; their width, whether
-- a forced break is among them and whether something makes the line exist, the floats met,
-- how far it reaches, and the inline boxes that are open behind them
pub record Filled : Type 0 where
  pub count : ℕ
  pub span : Span
  pub held : Held
  pub is_ended : Bool
  pub is_line : Bool
  pub met : Met
  pub extent : LineExtent
  pub opened : List ℕ

-- with one segment more, which has come to this width, and at whose end these floats are met
abbrev pub with_segment : InlineContext → Line → Filled → List Item → List ℕ → Held → Filled
with_segment c line f part floats held = record {
  count = suc f.count;
  span = spanned f.span part;
  held = held;
  is_ended = f.is_ended || list_any is_forced part;
  is_line = f.is_line || list_any (makes_line c.tree) part;
  met = fold (meet c line held.width) f.met floats;
  extent = fold (with_item_box c) f.extent part;
  opened = fold opened_after f.opened part;
}

-- the first segment stands on the line in any case
abbrev pub first_filled : InlineContext → Line → List ℕ → List Item → Held → Filled
first_filled c line opened part held =
    with_segment c line (record {
      count = 0;
      span = no_items;
      held = nothing_held;
      is_ended = false;
      is_line = false;
      met = line.before;
      extent = extent_at_start c opened;
      opened = opened;
    }) part
    (float_boxes (from_line_on c.tree part)) held

-- a later one where it fits beside the floats met so far, and no forced break stands before it
abbrev pub takes : InlineContext → Line → Filled → Held → Bool
takes c line f held = fits held.width (band_at f.met.floats c.cb line.top line.tall) && not f.is_ended

-- it goes on behind a segment that it takes, and is full before the first that it doesn't
abbrev pub past : Bool → Filled → (Filled → Filled) → Filled → Filled
past true f rest next = rest next
past false f rest next = f

-- the segments one by one
abbrev pub filled : InlineContext → Line → Filled → List (List Item) → Filled
filled c line f [] = f
filled c line f (part ∷ parts) = to_held (with_items (item_width c) f.held part) (λ next. filled c line next parts)
  where
    to_held : Held → (Filled → Filled) → Filled
    to_held held rest = past (takes c line f held) f rest (with_segment c line f part (float_boxes part) held)
