-- What the numbers of lines mean at a reading.
use Rattle.std.specs.Prelude.{ℕ, ℤ, List, map, Option, option_map}
use denote.Ref.{Bor}
use Rattle.viz_base.specs.declared.layouts.Entry.{Entry}
use Rattle.viz_base.specs.declared.layouts.Entry.TheVariants as of_entry
use Rattle.viz_base.specs.declared.layouts.Spot.{Spot}
use Rattle.viz_calc.specs.Renderings.{placed_at, spot_at}
use Rattle.viz_calc.specs.World.{Reading}
use Rattle.layout_semantics.specs.Fragments as fragments
use Rattle.layout_semantics.specs.LineFilling as filling
use Rattle.layout_semantics.specs.LineHeights as heights
use Rattle.lay_float.specs.Readings.{floats_at}
use Rattle.lay_line.specs.Items.{item_of}
use Rattle.lay_line.specs.declared.held.Held.{Held}
use Rattle.lay_line.specs.declared.held.Piece.{Piece}
use Rattle.lay_line.specs.declared.extents.LineExtent.{LineExtent}
use Rattle.lay_line.specs.declared.fragments.SetLine.{SetLine}
use Rattle.lay_line.specs.declared.loads.Load.{Load}
use Rattle.lay_line.specs.declared.loads.Loaded.{Loaded}
use Rattle.lay_line.specs.declared.meeting.Met.{Met}
use Rattle.lay_line.specs.declared.meeting.Slot.{Slot}
use Rattle.lay_line.specs.declared.places.ItemPlace.{ItemPlace}
use Rattle.lay_line.specs.declared.places.Row.{Row}
use Rattle.lay_line.specs.declared.segments.Segments.{Segments}
use Rattle.lay_line.specs.steps.Held as steps
use Rattle.lay_line.specs.steps.Measured as measured
use Rattle.lay_line.specs.steps.Measured.{Measured}
use Rattle.lay_line.specs.steps.Loading as loading
use Rattle.lay_line.specs.steps.Meeting as meeting

abbrev pub held_at : {N : Type 0} → (N → Reading → ℤ) → Held N → Reading → steps.Held
held_at at h e = record { width = at h.width e; spaces = at h.spaces e; begun = h.begun }

abbrev pub piece_at : {N : Type 0} → (N → Reading → ℤ) → Piece N → Reading → Measured
piece_at at p e = record { item = item_of p.item; width = at p.width e }

abbrev pub pieces_at : {N : Type 0} → (N → Reading → ℤ) → List (Piece N) → Reading → List Measured
pieces_at at ps e = map (λ p. piece_at at p e) ps

abbrev pub line_extent_at : {N : Type 0} → (N → Reading → ℤ) → LineExtent N → Reading → heights.LineExtent
line_extent_at at x e = record { above = at x.above e; below = at x.below e }

abbrev pub place_at : {N : Type 0} → (N → Reading → ℤ) → ItemPlace N → Reading → fragments.ItemPlace
place_at at p e = record { item = item_of p.item; left = at p.left e; right = at p.right e }

abbrev pub places_at : {N : Type 0} → (N → Reading → ℤ) → List (ItemPlace N) → Reading → List fragments.ItemPlace
places_at at ps e = map (λ p. place_at at p e) ps

abbrev pub row_at : {N : Type 0} → (N → Reading → ℤ) → Row N → Reading → measured.Row
row_at at r e = record { x = at r.x e; begun = r.begun; left = r.left; places = places_at at r.places.items e }

-- ---- floats

abbrev pub spots_at : {N : Type 0} → (N → Reading → ℤ) → List (ℕ × Spot N) → Reading → List (ℕ × Spot ℤ)
spots_at at ss e = map (λ s. (s.0, spot_at at s.1 e)) ss

abbrev pub met_at : {N : Type 0} → (N → Reading → ℤ) → Met N → Reading → filling.Met
met_at at m e = record {
  spots = spots_at at m.spots.items e;
  floats = floats_at at m.floats e;
  waiting = m.waiting.items;
}

abbrev pub slot_at : {N : Type 0} → (N → Reading → ℤ) → Slot N → Reading → meeting.Slot
slot_at at s e = record { top = at s.top e; tall = at s.tall e; least = at s.least e }

-- ---- lines

abbrev pub load_at : {N : Type 0} → (N → Reading → ℤ) → Load N → Reading → loading.Load
load_at at l e = record {
  held = held_at at l.held e;
  is_ended = l.is_ended;
  is_line = l.is_line;
  met = met_at at l.met e;
  extent = line_extent_at at l.extent e;
  opened = l.opened.items;
}

abbrev pub parts_at : {N : Type 0} → (N → Reading → ℤ) → Segments N → Reading → List (List Measured)
parts_at at s e = map (λ part. pieces_at at part e) (loading.parts_of s.pieces.now s.marks.now)

abbrev pub loaded_at : {N : Type 0} → (N → Reading → ℤ) → Loaded N → Reading → loading.Load × List (List Measured)
loaded_at at l e = (load_at at l.load e, parts_at at l.rest e)

-- ---- entries

abbrev pub set_line_at : {N : Type 0} → (N → Reading → ℤ) → SetLine N → Reading → fragments.SetLine
set_line_at at l e = record {
  baseline = at l.baseline e;
  left = at l.left e;
  right = at l.right e;
  places = places_at at l.places.now e;
  spots = spots_at at l.spots.now e;
}

abbrev pub entry_at : {N : Type 0} → (N → Reading → ℤ) → Entry N → Reading → Entry ℤ
entry_at at (of_entry.Here p) e = of_entry.Here (placed_at at p e)
entry_at at (of_entry.Goes b spot) e = of_entry.Goes b (spot_at at spot e)

abbrev pub entries_at : {N : Type 0} → (N → Reading → ℤ) → List (Entry N) → Reading → List (Entry ℤ)
entries_at at es e = map (λ x. entry_at at x e) es

-- a place that is lent, where there is one
abbrev pub before_at : {N : Type 0} → (N → Reading → ℤ) → Option (Bor (ItemPlace N)) → Reading
    → Option fragments.ItemPlace
before_at at p e = option_map (λ q. place_at at q.now e) p
