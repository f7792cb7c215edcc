-- The lines of a block container (CSS 2.1, 9.4.2, 9.5, 10.8, 16.2).
use Rattle.std.specs.Prelude.{ℕ, zero, suc, ◌==◌, ℤ, pos, ◌+ℤ◌, ◌-ℤ◌, Bool, true, false, not, List, [], ◌∷◌, ◌++◌, length, drop, filter, fold, Option, Some, None}
use Rattle.std.specs.Int.{int_max}
use Rattle.std.specs.List.{list_any}
use Rattle.viz_base.specs.declared.layouts.Entry.{Entry}
use Rattle.viz_base.specs.declared.layouts.Entry.TheVariants as of_entry
use Rattle.viz_base.specs.Numbers.{floor_of}
use Rattle.viz_base.specs.declared.layouts.Band.{Band}
use Rattle.viz_base.specs.declared.styles.Align.{Align}
use Rattle.viz_base.specs.declared.styles.Align.TheVariants as of_align
use Rattle.viz_base.specs.declared.styles.Style.{Style}
use Rattle.viz_base.specs.declared.trees.BoxTree.{BoxTree}
use Rattle.viz_base.specs.declared.trees.Kind.TheVariants as of_kind
use Rattle.std.specs.Option.{option_map_or}
use Rattle.layout_semantics.specs.Blocks.{node_of, plain_box, style_of}
use Rattle.layout_semantics.specs.Floats.{FloatBox, band_at}
use Rattle.layout_semantics.specs.InlineContent.{Item, start, finish, content, float_boxes, makes_line}
use Rattle.layout_semantics.specs.Segments.{segments, what_stays}
use Rattle.layout_semantics.specs.LineHeights.{InlineContext, LineExtent, height_of_extent, line_extent, extended_boxes, tallest}
use Rattle.layout_semantics.specs.LineFilling.{Met, Line, band_width, width_held, place_each, line_top, before_line, met_after, first_items, segments_held}
use Rattle.layout_semantics.specs.Fragments.{set_out, SetLine, line_entries, float_entries}

-- ---- between lines

-- what lines leave to the next one: where it begins, the highest top that its floats may have, the floats of
-- the context, the inline boxes that are open, outermost first, and the last line's baseline
pub record SoFar : Type 0 where
  pub y : ℤ
  pub least : ℤ
  pub floats : List FloatBox
  pub opened : List ℕ
  pub baseline : Option ℤ

-- lines that are laid out: what they leave, and their entries
pub record LaidLines : Type 0 where
  pub after : SoFar
  pub entries : List (Entry ℤ)

-- lines, and then those after them
abbrev pub followed : LaidLines → LaidLines → LaidLines
followed first rest = record { after = rest.after; entries = first.entries ++ rest.entries }

-- the inline boxes that are open after an item
abbrev pub opened_after : List ℕ → Item → List ℕ
opened_after opened (start at) = opened ++ at ∷ []
opened_after opened (finish at) = filter (λ other. not (other == at)) opened
opened_after opened _ = opened

-- ---- the next line

-- its floats that stand before anything on it are placed first, from where it begins; then its top is found
abbrev pub next_line : InlineContext → ℤ → SoFar → List Item → List (List Item) → Line
next_line c tall now first parts =
    at_top (place_each c now.least now.y (record { spots = []; floats = now.floats; waiting = [] })
    (float_boxes (before_line c.tree first)))
  where
    at_top : Met → Line
    at_top met = record {
      top = line_top c met.floats now.y tall (width_held c first);
      tall = tall;
      least = now.least;
      before = met;
      parts = parts;
    }

-- ---- a line that exists

-- how far a line's content is moved to the right, where there is room (CSS 2.1,
-- 16.2); in the middle by half the room, rounded down (our own reading)
abbrev pub aligned : Align → ℤ → ℤ
aligned of_align.Left room = pos 0
aligned of_align.Right room = int_max (pos 0) room
aligned of_align.Center room = floor_of (int_max (pos 0) room) 2

abbrev pub align_of : BoxTree → ℕ → Align
align_of tree at = option_map_or (λ (s : Style). s.align) (style_of tree at) of_align.Left

-- a line box: from edge to edge of what the floats leave, and from its highest to its lowest box
abbrev pub line_box : InlineContext → Band ℤ → ℤ → ℤ → Entry ℤ
line_box c room top bottom =
    of_entry.Here (plain_box of_kind.Line (node_of c.tree c.container)
    (record { left = room.left; top = top; right = room.right; bottom = bottom }))

-- the line with its content set out in the room that its floats leave
abbrev pub content_left : InlineContext → Band ℤ → ℤ → ℤ
content_left c room held = room.left +ℤ aligned (align_of c.tree c.container) (band_width room -ℤ held)

abbrev pub set_line : InlineContext → ℤ → ℤ → ℤ → List Item → Met → SetLine
set_line c baseline left held items late =
    record {
      baseline = baseline;
      left = left;
      right = left +ℤ held;
      places = set_out c left (what_stays items);
      spots = late.spots;
    }

-- the line holds the items, and the floats were met that don't wait; those that wait are placed from its bottom on
abbrev pub laid_line : InlineContext → SoFar → Line → List Item → Met → LaidLines
laid_line c now line items met = with_extent (line_extent c (now.opened ++ extended_boxes items))
  where
    finished : LineExtent → Band ℤ → Met → LaidLines
    finished e room late = record {
      after = record {
        y = line.top +ℤ height_of_extent e;
        least = int_max now.least line.top;
        floats = late.floats;
        opened = fold opened_after now.opened items;
        baseline = Some (line.top +ℤ e.above);
      };
      entries = line_box c room line.top (line.top +ℤ height_of_extent e)
          ∷ line_entries c (set_line c (line.top +ℤ e.above) (content_left c room (width_held c items))
          (width_held c items) items late) now.opened;
    }

    with_extent : LineExtent → LaidLines
    with_extent e = finished e (band_at met.floats c.cb line.top line.tall)
        (place_each c (int_max now.least line.top) (line.top +ℤ height_of_extent e) (record met { waiting = [] })
        met.waiting)

-- ---- a line that doesn't exist

-- it has no height and no entry; its floats are placed from where it would begin (CSS 2.1, 9.4.2)
abbrev pub laid_no_line : InlineContext → SoFar → List Item → LaidLines
laid_no_line c now items =
    with_floats (place_each c now.least now.y (record { spots = []; floats = now.floats; waiting = [] })
    (float_boxes items))
  where
    with_floats : Met → LaidLines
    with_floats met =
        record {
          after = record now { floats = met.floats; opened = fold opened_after now.opened items };
          entries = float_entries met.spots;
        }

-- ---- all lines

-- the first n segments of a line
abbrev pub laid_segments : InlineContext → SoFar → Line → ℕ → LaidLines
laid_segments c now line n = by_existence (list_any (makes_line c.tree) (first_items line n))
  where
    by_existence : Bool → LaidLines
    by_existence true = laid_line c now line (first_items line n) (met_after c line n)
    by_existence false = laid_no_line c now (first_items line n)

-- the next line, and the segments after it
abbrev pub laid_next : InlineContext → ℤ → SoFar → List Item → List (List Item) → LaidLines × List (List Item)
laid_next c tall now first parts = with_line (next_line c tall now first parts)
  where
    with_count : Line → ℕ → LaidLines × List (List Item)
    with_count line n = (laid_segments c now line n, drop n parts)

    with_line : Line → LaidLines × List (List Item)
    with_line line = with_count line (segments_held c line)

abbrev pub go_on : (SoFar → List (List Item) → LaidLines) → LaidLines × List (List Item) → LaidLines
go_on rest next = followed next.0 (rest next.0.after next.1)

-- where no segment is left
abbrev pub laid_none : SoFar → LaidLines
laid_none now = record { after = now; entries = [] }

-- the lines of these segments, at most so many
unfoldable pub lines_to : ℕ → InlineContext → ℤ → SoFar → List (List Item) → LaidLines
lines_to zero c tall now parts = laid_none now
lines_to (suc lines) c tall now [] = laid_none now
lines_to (suc lines) c tall now (first ∷ parts) =
    go_on (lines_to lines c tall) (laid_next c tall now first (first ∷ parts))

-- before the first line
abbrev pub before_all : ℤ → ℤ → List FloatBox → SoFar
before_all y least floats = record { y = y; least = least; floats = floats; opened = []; baseline = None }

-- the lines of a block container, with their floats and their last baseline
pub record LineList : Type 0 where
  pub entries : List (Entry ℤ)
  pub bottom : ℤ
  pub baseline : Option ℤ
  pub floats : List FloatBox

-- from y on, in a block formatting context with these floats, none of the lines' floats having its top
-- above `least`; each line holds one segment at least, so there are no more lines than segments
abbrev pub lines_in : InlineContext → ℤ → ℤ → List FloatBox → LineList
lines_in c y least floats = listed (lines_of (segments c.tree (content c.tree c.container)))
  where
    lines_of : List (List Item) → LaidLines
    lines_of parts = lines_to (length parts) c (tallest c) (before_all y least floats) parts

    listed : LaidLines → LineList
    listed laid = record {
      entries = laid.entries;
      bottom = laid.after.y;
      baseline = laid.after.baseline;
      floats = laid.after.floats;
    }
