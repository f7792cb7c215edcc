-- What the values of the flow mean at a reading.
use Rattle.std.specs.Prelude.{ℕ, ℤ, List, [], map, Option, option_map}
use Rattle.viz_calc.specs.World.{Reading}
use Rattle.layout_semantics.specs.Flow.{Independent, Reached, Cleared}
use Rattle.lay_float.specs.Readings.{floats_at, extent_at, option_at}
use Rattle.lay_margin.specs.Readings as margins
use Rattle.lay_margin.specs.Runs.{run_at}
use Rattle.lay_frame.specs.Readings.{boxes_at}
use Rattle.lay_steps.specs.Flow as steps
use Rattle.lay_steps.specs.Forward as forward
use Rattle.layout_semantics.specs.Clearance as clearance
use Rattle.lay_steps.specs.Tables.{laid_at}
use Rattle.lay_steps.specs.Flow.{Ending}
use Rattle.lay_flow.specs.declared.parts.Cleared.{Cleared as ClearedBox}
use Rattle.lay_flow.specs.declared.parts.Standing.{Standing}
use Rattle.lay_flow.specs.declared.parts.Standing.TheVariants.{AtTop, Below}
use Rattle.lay_flow.specs.declared.parts.Context.{Context}
use Rattle.lay_flow.specs.declared.parts.Independent.{Independent as IndependentBox}
use Rattle.lay_flow.specs.declared.parts.Base.{Base}
use Rattle.lay_flow.specs.declared.parts.Base.TheVariants.{Hangs, Stands}
use Rattle.lay_flow.specs.declared.parts.End.{End}
use Rattle.lay_flow.specs.declared.parts.Going.{Going}
use Rattle.lay_flow.specs.declared.parts.End.TheVariants.{GoesOn, Solid, Ends}
use Rattle.lay_flow.specs.declared.parts.Reached.{Reached as ReachedBox}
use Rattle.lay_flow.specs.declared.parts.Laid.{Laid}
use Rattle.lay_flow.specs.declared.parts.Met.{Met}

-- ---- how far the flow has come

abbrev pub cleared_at : {N : Type 0} → (N → Reading → ℤ) → Option (ClearedBox N) → Reading → Cleared
cleared_at at c e = option_map (λ x. (x.at, at x.edge e)) c

abbrev pub standing_at : {N : Type 0} → (N → Reading → ℤ) → Standing N → Reading → steps.Standing
standing_at at (AtTop y cleared) e = steps.at_top (at y e) (cleared_at at cleared e)
standing_at at (Below edge run stuck) e = steps.below (at edge e) (run_at at run e) stuck

abbrev pub context_at : {N : Type 0} → (N → Reading → ℤ) → Context N → Reading → steps.Context
context_at at c e = record {
  standing = standing_at at c.standing e;
  floats = floats_at at c.floats e;
  least = option_at at c.least e;
  baseline = option_at at c.baseline e;
}

-- ---- boxes in coordinates of their own

abbrev pub independent_at : {N : Type 0} → (N → Reading → ℤ) → IndependentBox N → Reading → Independent
independent_at at a e =
    record { size = extent_at at a.size e; baseline = option_at at a.baseline e; boxes = boxes_at at a.boxes.items e }

abbrev pub table_at : {N : Type 0} → (N → Reading → ℤ) → List (Option (IndependentBox N)) → Reading → List (Option Independent)
table_at at table e = map (λ o. option_map (λ a. independent_at at a e) o) table

-- the boxes of a table by their numbers
unfoldable pub apart_at : {N : Type 0} → (N → Reading → ℤ) → List (Option (IndependentBox N)) → Reading → ℕ → Independent
apart_at at table e = laid_at (table_at at table e)

-- ---- the way forward

abbrev pub base_at : {N : Type 0} → (N → Reading → ℤ) → Base N → Reading → clearance.Base
base_at at (Hangs edge) e = clearance.hangs (at edge e)
base_at at (Stands edge) e = clearance.stands (at edge e)

abbrev pub end_at : {N : Type 0} → (N → Reading → ℤ) → End N → Reading → forward.End
end_at at GoesOn e = forward.goes_on
end_at at Solid e = forward.solid
end_at at (Ends c) e = forward.cleared c.at (at c.edge e)

abbrev pub found_at : {N : Type 0} → (N → Reading → ℤ) → Going N → End N → Reading → forward.Found
found_at at g x e = forward.found (run_at at g.run e) (margins.floats_at at g.waiting e) (end_at at x e)

-- ---- a box in flow

abbrev pub reached_at : {N : Type 0} → (N → Reading → ℤ) → ReachedBox N → Reading → Reached
reached_at at r e = record { top = at r.top e; clears = r.clears; cleared = cleared_at at r.cleared e }

abbrev pub met_at : {N : Type 0} → (N → Reading → ℤ) → Met N → Reading → steps.Met
met_at at m e = steps.met (reached_at at m.reached e) (run_at at m.own e)

abbrev pub ending_at : {N : Type 0} → (N → Reading → ℤ) → Laid N → Reading → Ending
ending_at at l e = record { through = l.through; bottom = at l.bottom e; margins = run_at at l.margins e }

-- a box that is laid out, without the boxes that it adds
abbrev pub laid_with : {N : Type 0} → (N → Reading → ℤ) → Laid N → Context N → Reading → steps.Laid
laid_with at l c e = record { ending = ending_at at l e; after = steps.step (context_at at c e) [] }
