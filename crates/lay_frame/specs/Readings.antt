-- What boxes of the flow mean at a reading.
use Rattle.std.specs.Prelude.{ℤ, List, map}
use Rattle.viz_base.specs.declared.renderings.Placed.{Placed}
use Rattle.viz_calc.specs.World.{Reading}
use Rattle.viz_calc.specs.Renderings.{placed_at, spot_at}
use Rattle.layout_semantics.specs.Verticals.{Verticals}
use Rattle.layout_semantics.specs.Rectangles.{Frame}
use Rattle.lay_width.specs.Readings.{widths_at}
use Rattle.lay_frame.specs.declared.frames.Edges.{Edges}
use Rattle.lay_frame.specs.declared.frames.Shape.{Shape}

abbrev pub verticals_at : {N : Type 0} → (N → Reading → ℤ) → Edges N → Reading → Verticals
verticals_at at v e = record {
  margin_top = at v.margin_top e;
  border_top = at v.border_top e;
  padding_top = at v.padding_top e;
  padding_bottom = at v.padding_bottom e;
  border_bottom = at v.border_bottom e;
  margin_bottom = at v.margin_bottom e;
}

abbrev pub frame_at : {N : Type 0} → (N → Reading → ℤ) → Shape N → Reading → Frame
frame_at at f e = record { x = widths_at at f.x e; v = verticals_at at f.v e; corner = spot_at at f.corner e }

unfoldable pub boxes_at : {N : Type 0} → (N → Reading → ℤ) → List (Placed N) → Reading → List (Placed ℤ)
boxes_at at boxes e = map (λ p. placed_at at p e) boxes
