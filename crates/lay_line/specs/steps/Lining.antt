-- Lines of measured items, one after another.
use Rattle.std.specs.Prelude.{ℕ, zero, suc, ◌-◌, ℤ, ◌+ℤ◌, Bool, false, cond, List, [], ◌∷◌, take, drop, length, Some}
use Rattle.std.specs.Int.{int_max}
use Rattle.std.specs.List.{flat_map}
use Rattle.viz_base.specs.declared.layouts.Band.{Band}
use Rattle.viz_base.specs.declared.layouts.Entry.{Entry}
use Rattle.viz_base.specs.declared.layouts.Spot.{Spot}
use Rattle.layout_semantics.specs.Floats.{FloatBox}
use Rattle.layout_semantics.specs.InlineContent.{Item, float_boxes}
use Rattle.layout_semantics.specs.LineHeights.{InlineContext, height_of_extent}
use Rattle.layout_semantics.specs.LineFilling.{Met}
use Rattle.layout_semantics.specs.Fragments.{ItemPlace, SetLine, line_entries, float_entries}
use Rattle.layout_semantics.specs.Lines.{SoFar, LaidLines, LineList, followed, laid_none, line_box, content_left}
use Rattle.lay_line.specs.steps.Held.{Held, nothing_held}
use Rattle.lay_line.specs.steps.Loading.{Load, bare, ahead, reaching_boxes, loaded, loading, tallest_by, parts_of}
use Rattle.lay_line.specs.steps.Measured.{Measured, held_with, rows, first_row}
use Rattle.lay_line.specs.steps.Meeting.{Slot, placed_all, top_in}
use Rattle.lay_line.specs.steps.Staying.{no_items, spanned}
use Rattle.lay_line.specs.steps.Words.{strut_in, room_in}

-- no float yet, behind these
abbrev pub no_floats : List FloatBox → Met
no_floats floats = record { spots = []; floats = floats; waiting = [] }

-- ---- a line begins

-- the floats that stand before anything on it
unfoldable pub met_before : InlineContext → SoFar → List Measured → Met
met_before c now first =
    placed_all c now.least now.y (no_floats now.floats) (float_boxes (take (ahead c (bare first)) (bare first)))

abbrev pub slot_for : InlineContext → ℤ → SoFar → Met → ℤ → Slot
slot_for c tall now before width =
    record { top = top_in c before.floats now.y tall width; tall = tall; least = now.least }

unfoldable pub first_load : InlineContext → Slot → Met → List ℕ → List Measured → Held → Load
first_load c slot before opened first held =
    loaded c slot (record {
      held = nothing_held;
      is_ended = false;
      is_line = false;
      met = before;
      extent = reaching_boxes c (strut_in c) opened;
      opened = opened;
    })
    (bare first) (float_boxes (drop (ahead c (bare first)) (bare first))) held

-- ---- a line that exists

unfoldable pub left_in : InlineContext → Band ℤ → ℤ → ℤ
left_in c room held = content_left c room held

-- the places of its items
unfoldable pub places_of : ℤ → List Measured → List ItemPlace
places_of x items = (rows (first_row x (spanned no_items (bare items)).solid) items).places

-- its entries
unfoldable pub entries_in : InlineContext → SetLine → List ℕ → List (Entry ℤ)
entries_in c line opened = line_entries c line opened

unfoldable pub box_in : InlineContext → Band ℤ → ℤ → ℤ → Entry ℤ
box_in c room top bottom = line_box c room top bottom

abbrev pub set_at : Slot → Load → ℤ → List Measured → List (ℕ × Spot ℤ) → SetLine
set_at slot f left items spots =
    record {
      baseline = slot.top +ℤ f.extent.above;
      left = left;
      right = left +ℤ f.held.width;
      places = places_of left items;
      spots = spots;
    }

unfoldable pub full_line : InlineContext → SoFar → Slot → Load → List Measured → LaidLines
full_line c now slot f items = finished (room_in c f.met.floats slot.top slot.tall)
    (placed_all c (int_max now.least slot.top) (slot.top +ℤ height_of_extent f.extent)
    (record { spots = f.met.spots; floats = f.met.floats; waiting = [] }) f.met.waiting)
  where
    finished : Band ℤ → Met → LaidLines
    finished room late = record {
      after = record {
        y = slot.top +ℤ height_of_extent f.extent;
        least = int_max now.least slot.top;
        floats = late.floats;
        opened = f.opened;
        baseline = Some (slot.top +ℤ f.extent.above);
      };
      entries = box_in c room slot.top (slot.top +ℤ height_of_extent f.extent)
          ∷ entries_in c (set_at slot f (left_in c room f.held.width) items late.spots) now.opened;
    }

-- ---- and one that doesn't

unfoldable pub empty_line : InlineContext → SoFar → Load → List Measured → LaidLines
empty_line c now f items =
    finished (placed_all c now.least now.y (no_floats (take (length now.floats) f.met.floats))
    (float_boxes (bare items)))
  where
    finished : Met → LaidLines
    finished met = record {
      after =
          record { y = now.y; least = now.least; floats = met.floats; opened = f.opened; baseline = now.baseline };
      entries = float_entries met.spots;
    }

-- ---- one line, and all

unfoldable pub ended_line : InlineContext → SoFar → Slot → Load → List Measured → LaidLines
ended_line c now slot f items = cond f.is_line (full_line c now slot f items) (empty_line c now f items)

abbrev pub joined_parts : List (List Measured) → List Measured
joined_parts parts = flat_map (λ part. part) parts

-- what stands before what is left
abbrev pub taken : List Measured → List Measured → List Measured
taken all left = take (length all - length left) all

unfoldable pub next_in : InlineContext → ℤ → SoFar → List Measured → List (List Measured) → LaidLines
    × List (List Measured)
next_in c tall now first rest = of_held (held_with nothing_held first)
  where
    of_loaded : Slot → Load × List (List Measured) → LaidLines × List (List Measured)
    of_loaded slot f = (ended_line c now slot f.0 (taken (joined_parts (first ∷ rest)) (joined_parts f.1)), f.1)

    of_slot : Held → Met → Slot → LaidLines × List (List Measured)
    of_slot held before slot = of_loaded slot (loading c slot (first_load c slot before now.opened first held) rest)

    of_before : Held → Met → LaidLines × List (List Measured)
    of_before held before = of_slot held before (slot_for c tall now before held.width)

    of_held : Held → LaidLines × List (List Measured)
    of_held held = of_before held (met_before c now first)

-- a line, and then those of what is left
abbrev pub going_on : (SoFar → List (List Measured) → LaidLines) → LaidLines × List (List Measured) → LaidLines
going_on rest next = followed next.0 (rest next.0.after next.1)

unfoldable pub laying : ℕ → InlineContext → ℤ → SoFar → List (List Measured) → LaidLines
laying zero c tall now parts = laid_none now
laying (suc lines) c tall now [] = laid_none now
laying (suc lines) c tall now (first ∷ parts) = going_on (laying lines c tall) (next_in c tall now first parts)

-- the lines of measured items, in the parts that marks make, from what stands before them
unfoldable pub lined : InlineContext → List Item → List Measured → List Bool → SoFar → LineList
lined c items ms marks now = listed (laying (length ms) c (tallest_by c items) now (parts_of ms marks))
  where
    listed : LaidLines → LineList
    listed l = record { entries = l.entries; bottom = l.after.y; baseline = l.after.baseline; floats = l.after.floats }
