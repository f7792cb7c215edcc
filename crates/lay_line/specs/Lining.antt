-- Lines at a reading: what stands between them, what one is made of, and all.
use Rattle.std.specs.Prelude.{ℤ, ◌+ℤ◌, List, []}
use Rattle.viz_base.specs.declared.layouts.Lines.{Lines}
use Rattle.viz_calc.specs.World.{Reading}
use Rattle.layout_semantics.specs.Floats.{FloatBox}
use Rattle.layout_semantics.specs.Fragments as fragments
use Rattle.layout_semantics.specs.LineFilling as filling
use Rattle.layout_semantics.specs.LineHeights.{InlineContext}
use Rattle.layout_semantics.specs.Lines as lines
use Rattle.lay_float.specs.Readings.{floats_at, option_at}
use Rattle.lay_float.specs.declared.floats.Floats.{Floats}
use Rattle.lay_line.specs.Contexts.{context_at}
use Rattle.lay_line.specs.LinesFit.{Start}
use Rattle.lay_line.specs.Readings.{pieces_at, spots_at, parts_at, entries_at}
use Rattle.lay_line.specs.declared.endings.Begun.{Begun}
use Rattle.lay_line.specs.declared.endings.SoFar.{SoFar}
use Rattle.lay_line.specs.declared.held.Piece.{Piece}
use Rattle.lay_line.specs.declared.line_content.Content.{Content}
use Rattle.lay_line.specs.declared.lining.Frame.{Frame}
use Rattle.lay_line.specs.declared.lining.Laid.{Laid}
use Rattle.lay_line.specs.declared.segments.Cut.{Cut}
use Rattle.lay_line.specs.steps.Lining.{places_of, next_in}
use Rattle.lay_line.specs.steps.Measured.{Measured}
use Rattle.lay_line.specs.steps.Meeting.{placed_all}

abbrev pub set_by : {N : Type 0} → (N → Reading → ℤ) → Content N → List (Piece N) → Reading → fragments.SetLine
set_by at x pieces e = record {
  baseline = at x.baseline e;
  left = at x.left e;
  right = at x.left e +ℤ at x.width e;
  places = places_of (at x.left e) (pieces_at at pieces e);
  spots = spots_at at x.spots.items e;
}

-- those that wait are placed from the line's bottom on
abbrev pub late_in : InlineContext → ℤ → ℤ → filling.Met → filling.Met
late_in c least y met =
    placed_all c least y (record { spots = met.spots; floats = met.floats; waiting = [] }) met.waiting

-- where a line begins
abbrev pub so_far_at : {N : Type 0} → (N → Reading → ℤ) → SoFar N → Reading → lines.SoFar
so_far_at at s e =
    record {
      y = at s.y e;
      least = at s.least e;
      floats = floats_at at s.floats e;
      opened = s.opened.items;
      baseline = option_at at s.baseline e;
    }

-- the same with these floats
abbrev pub begun_at : {N : Type 0} → (N → Reading → ℤ) → Begun N → List FloatBox → Reading → lines.SoFar
begun_at at b floats e =
    record {
      y = at b.y e;
      least = at b.least e;
      floats = floats;
      opened = b.opened.items;
      baseline = option_at at b.baseline e;
    }

-- with how many there are alone
abbrev pub start_at : {N : Type 0} → (N → Reading → ℤ) → Begun N → Reading → Start
start_at at b e = record { y = at b.y e; least = at b.least e; floats = b.floats }

-- the next line, and the segments behind it
abbrev pub next_of : {N : Type 0} → (N → Reading → ℤ) → Frame N → SoFar N → Cut N → Reading → lines.LaidLines
    × List (List Measured)
next_of at f now cut e =
    next_in (context_at at f.container.now e) (at f.tall e) (so_far_at at now e) (pieces_at at cut.first.now e)
    (parts_at at cut.rest e)

-- lines, with the floats of the context behind them
abbrev pub list_at : {N : Type 0} → (N → Reading → ℤ) → Lines N → Floats N → Reading → lines.LineList
list_at at l floats e =
    record {
      entries = entries_at at l.entries e;
      bottom = at l.bottom e;
      baseline = option_at at l.baseline e;
      floats = floats_at at floats e;
    }

abbrev pub laid_at : {N : Type 0} → (N → Reading → ℤ) → Laid N → Reading → lines.LineList
laid_at at l e = list_at at l.lines l.floats e
