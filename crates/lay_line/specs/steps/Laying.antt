-- A line, and the lines of a block container, in steps.
use Rattle.std.specs.Prelude.{ℕ, zero, suc, ℤ, pos, ◌+ℤ◌, false, cond, List, [], ◌∷◌, drop, length, fold, None, Some}
use Rattle.std.specs.Int.{int_max}
use Rattle.viz_base.specs.declared.layouts.Entry.{Entry}
use Rattle.layout_semantics.specs.Floats.{FloatBox, band_at}
use Rattle.layout_semantics.specs.InlineContent.{Item, content, float_boxes}
use Rattle.layout_semantics.specs.Segments.{may_part}
use Rattle.layout_semantics.specs.LineHeights.{InlineContext, height_of_extent, strut}
use Rattle.layout_semantics.specs.LineFilling.{Met, Line, place_each, before_line, first_items, item_width}
use Rattle.layout_semantics.specs.Fragments.{ItemPlace, line_entries, float_entries}
use Rattle.layout_semantics.specs.Lines.{SoFar, LaidLines, LineList, before_all, go_on, laid_none, line_box, content_left}
use Rattle.lay_line.specs.steps.Tops.{top_found}
use Rattle.lay_line.specs.steps.Staying.{stand}
use Rattle.lay_line.specs.steps.Held.{Held, nothing_held, with_items}
use Rattle.lay_line.specs.steps.Lining.{no_floats}
use Rattle.lay_line.specs.steps.Filling.{Filled, first_filled, filled, with_item_box}
use Rattle.lay_line.specs.steps.Cutting.{cut}

-- the height of the tallest line that some items could make
abbrev pub tallest_of : InlineContext → List Item → ℤ
tallest_of c items = int_max (pos 1) (height_of_extent (fold (with_item_box c) (strut c) items))

-- the next line, its first segment taking so much
abbrev pub line_from : InlineContext → ℤ → SoFar → List Item → List (List Item) → ℤ → Line
line_from c tall now first parts width =
    at_top (place_each c now.least now.y (no_floats now.floats) (float_boxes (before_line c.tree first)))
  where
    at_top : Met → Line
    at_top met = record {
      top = top_found c met.floats now.y tall width;
      tall = tall;
      least = now.least;
      before = met;
      parts = parts;
    }

-- where the content of a line begins
abbrev pub left_of : InlineContext → Line → Met → ℤ → ℤ
left_of c line met width = content_left c (band_at met.floats c.cb line.top line.tall) width

-- the entries of a line that is full: itself and its content, with the floats that stand
abbrev pub line_added : InlineContext → SoFar → Line → Filled → List ItemPlace → Met → List (Entry ℤ)
line_added c now line f places late = with_left (left_of c line f.met f.held.width)
  where
    with_left : ℤ → List (Entry ℤ)
    with_left left =
        line_box c (band_at f.met.floats c.cb line.top line.tall) line.top (line.top +ℤ height_of_extent f.extent)
        ∷ line_entries c (record {
          baseline = line.top +ℤ f.extent.above;
          left = left;
          right = left +ℤ f.held.width;
          places = places;
          spots = late.spots;
        }) now.opened

-- a line that exists, from what the pass over its segments carried
abbrev pub laid : InlineContext → SoFar → Line → Filled → List ItemPlace → LaidLines
laid c now line f places =
    finished (place_each c (int_max now.least line.top) (line.top +ℤ height_of_extent f.extent)
    (record f.met { waiting = [] }) f.met.waiting)
  where
    finished : Met → LaidLines
    finished late = record {
      after = record {
        y = line.top +ℤ height_of_extent f.extent;
        least = int_max now.least line.top;
        floats = late.floats;
        opened = f.opened;
        baseline = Some (line.top +ℤ f.extent.above);
      };
      entries = line_added c now line f places late;
    }

-- and one that doesn't
abbrev pub laid_empty : InlineContext → SoFar → List ℕ → List Item → LaidLines
laid_empty c now opened items = finished (place_each c now.least now.y (no_floats now.floats) (float_boxes items))
  where
    finished : Met → LaidLines
    finished met = record {
      after = record now { floats = met.floats; opened = opened };
      entries = float_entries met.spots;
    }

abbrev pub line_closed : InlineContext → SoFar → Line → Filled → List (List Item) → LaidLines × List (List Item)
line_closed c now line f parts = (
  cond f.is_line
      (laid c now line f (stand c (left_of c line f.met f.held.width) false f.span.solid (first_items line f.count)))
      (laid_empty c now f.opened (first_items line f.count)),
  drop f.count parts,
)

-- one line
abbrev pub line_step : InlineContext → ℤ → SoFar → List Item → List (List Item) → LaidLines × List (List Item)
line_step c tall now first rest = of_held (with_items (item_width c) nothing_held first)
  where
    of_line : Held → Line → LaidLines × List (List Item)
    of_line held line =
        line_closed c now line (filled c line (first_filled c line now.opened first held) rest) (first ∷ rest)

    of_held : Held → LaidLines × List (List Item)
    of_held held = of_line held (line_from c tall now first (first ∷ rest) held.width)

-- and all
unfoldable pub laid_to : ℕ → InlineContext → ℤ → SoFar → List (List Item) → LaidLines
laid_to zero c tall now parts = laid_none now
laid_to (suc lines) c tall now [] = laid_none now
laid_to (suc lines) c tall now (first ∷ parts) = go_on (laid_to lines c tall) (line_step c tall now first parts)

-- the lines of a block container, from its content
abbrev pub lines_of : InlineContext → List Item → ℤ → ℤ → List FloatBox → LineList
lines_of c items y least floats = listed (of_parts (cut (may_part c.tree) None None items))
  where
    of_parts : List (List Item) → LaidLines
    of_parts parts = laid_to (length parts) c (tallest_of c items) (before_all y least floats) parts

    listed : LaidLines → LineList
    listed l = record { entries = l.entries; bottom = l.after.y; baseline = l.after.baseline; floats = l.after.floats }

abbrev pub lines_by_steps : InlineContext → ℤ → ℤ → List FloatBox → LineList
lines_by_steps c y least floats = lines_of c (content c.tree c.container) y least floats
