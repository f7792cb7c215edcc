use Rattle.std.proofs.Common.{◌≡◌, ◌++◌, ◌∷◌, [], List, length, ap, ◌∙◌, arith}
use Rattle.std.proofs.lemmas.Grind.{common_steps}
use Rattle.std.specs.Prelude.{ℕ, ◌==◌}
use Rattle.std.specs.Prelude.{ℤ}
use Rattle.viz_base.specs.declared.layouts.Spot.{Spot}
use Rattle.layout_semantics.specs.Floats.{FloatBox}
use Rattle.layout_semantics.specs.LineFilling.{Met}
use Rattle.lay_float.specs.Readings.{boxes_at}
use Rattle.lay_line.specs.Contexts.{context_at}
use Rattle.lay_line.specs.Readings.{met_at, slot_at, spots_at}
use Rattle.lay_line.specs.steps.Meeting.{leaves}
use Rattle.lay_line.proofs.FloatSteps.{back-to, none-is, waits-after}
use Rattle.lay_line.proofs.Placing.{next_places, room_fits}
use Rattle.lay_line.specs.steps.Words.{spot_in, floats_with}
use Rattle.lay_line.specs.Limits.{PlacesFit, RoomFits}
use Rattle.lay_float.specs.Readings.{floats_at}
use Rattle.lay_float.specs.Limits.{IsHalf}
use Rattle.viz_calc.proofs.Runs.{Goes-then, BlamesButMem-then}
use Rattle.viz_calc.specs.World.{Reading}
use Rattle.viz_calc.specs.Run.{BlamesButMem}
use Rattle.viz_calc.specs.Renderings.{spot_at}
use Rattle.std.proofs.Common.{IsTrue, sym, subst}
use Rattle.lay_line.specs.steps.Meeting.{met_next}
use Rattle.lay_line.proofs.meeting.meet.Goals as goal

abbrev made : List (ℕ × Spot ℤ) → List FloatBox → List ℕ → Met
made s f w = record { spots = s; floats = f; waiting = w }

pub returns : goal.returns
unfolding met_next
returns g c = record {
  goes = Goes-then _ _ _ (Goes-then _ _ _ c.place_of_line-spot.ensures.goes c.leaves_room.ensures.goes) c.add_waiting-2.ensures.goes;
  value = λ e o.
      let at = g.S.Steady.at in
      let ctx = context_at at c.args.container.now e in
      let slot = slot_at at c.args.slot.now e in
      let held = at c.args.held.now e in
      let met = c.args.met.now in
      let b = c.args.at in
      let spot = spot_at at c.place_of_line-spot.result e in
      let o1 = c.add_waiting-2.ensures.goes.closes e o in
      let o2 = c.leaves_room.ensures.goes.closes e o1 in
      let grown = c.place_of_line-spot.ensures.appended e o2 in
      let len : met.waiting.len ≡ length met.waiting.items = omega (arith, met.waiting.ok.0) in
      let none : met.waiting.items ≡ [] = none-is c.is_empty.result met.waiting.items (cc) (c.is_empty.ensures ∙ ap (λ n. n == 0) len) in
      let refuses = c.if-leaves_room.ensures.value e o1 ∙ ap (λ l. leaves ctx slot held (boxes_at at l e) spot.y) c.as_slice.ensures in
      let floats = ap (λ l. boxes_at at l e) c.truncate.ensures ∙ back-to at e ctx met.floats.placed c.place_of_line-spot.new.floats.placed c.len-before.result b spot c.len-before.ensures grown in
      ap (λ w. made (spots_at at met.spots.items e) (boxes_at at c.truncate.new.self e) w) (c.add_waiting-2.ensures.value e o)
      ∙ (ap (λ fs. made (spots_at at met.spots.items e) fs (met.waiting.items ++ b ∷ [])) floats
      ∙ waits-after ctx slot held (met_at at met e) b spot _ none (c.place_of_line-spot.ensures.value e o2) grown refuses);
  cause =
      let at = g.S.Steady.at in
      let run = g.S.Steady.run in
      let start = run c.args.calc.now in
      let b = c.args.at in
      let ctx = (λ (e : Reading). context_at at c.args.container.now e) in
      let slot = (λ (e : Reading). slot_at at c.args.slot.now e) in
      let floats = (λ (e : Reading). floats_at at c.args.met.now.floats e) in
      let placed = c.place_of_line-spot.ensures in
      let room = c.leaves_room.ensures in
      let more = (e : Reading) → IsTrue (start.is_open e) → PlacesFit (ctx e) (floats e) (slot e).least (slot e).top (b ∷ []) × IsHalf (slot e).tall in
      let first : BlamesButMem start (run c.place_of_line-spot.new.calc) more = record { coeff = λ f. placed.cause.coeff (λ e o. (f e o).0); opens = placed.cause.opens } in
      let second = BlamesButMem-then start (run c.place_of_line-spot.new.calc) (run c.leaves_room.new.calc) _ more placed.goes room.goes first
      (λ f e o.
      let p = f e (placed.goes.closes e o) in
      let grown = placed.appended e o ∙ ap (floats_with (ctx e) (floats e) b) (placed.value e o) in
      subst (λ l. RoomFits (ctx e) (boxes_at at l e) (slot e).top (slot e).tall) (sym c.as_slice.ensures)
      (subst (λ (fs : List FloatBox). RoomFits (ctx e) fs (slot e).top (slot e).tall) (sym grown)
      (room_fits (ctx e) (floats_with (ctx e) (floats e) b (spot_in (ctx e) (floats e) (slot e).least (slot e).top b)) (slot e).least (slot e).top (slot e).tall []
      (next_places (ctx e) (floats e) (slot e).least (slot e).top b [] p.0) p.1)))
      (record { coeff = room.cause.coeff; opens = room.cause.opens }) in
      BlamesButMem-then start (run c.leaves_room.new.calc) (run c.add_waiting-2.new.calc) _ more (Goes-then _ _ _ placed.goes room.goes) c.add_waiting-2.ensures.goes second (λ f e o. tt) c.add_waiting-2.ensures.cause;
}

pub returns-then-leaves_room : goal.returns-then-leaves_room
unfolding met_next
returns-then-leaves_room g c = record {
  goes = Goes-then _ _ _ (Goes-then _ _ _ c.place_of_line-spot.ensures.goes c.leaves_room.ensures.goes) c.add_spot.ensures.goes;
  value = grind (arith, common_steps);
  cause =
      let at = g.S.Steady.at in
      let run = g.S.Steady.run in
      let start = run c.args.calc.now in
      let b = c.args.at in
      let ctx = (λ (e : Reading). context_at at c.args.container.now e) in
      let slot = (λ (e : Reading). slot_at at c.args.slot.now e) in
      let floats = (λ (e : Reading). floats_at at c.args.met.now.floats e) in
      let placed = c.place_of_line-spot.ensures in
      let room = c.leaves_room.ensures in
      let more = (e : Reading) → IsTrue (start.is_open e) → PlacesFit (ctx e) (floats e) (slot e).least (slot e).top (b ∷ []) × IsHalf (slot e).tall in
      let first : BlamesButMem start (run c.place_of_line-spot.new.calc) more = record { coeff = λ f. placed.cause.coeff (λ e o. (f e o).0); opens = placed.cause.opens } in
      let second = BlamesButMem-then start (run c.place_of_line-spot.new.calc) (run c.leaves_room.new.calc) _ more placed.goes room.goes first
      (λ f e o.
      let p = f e (placed.goes.closes e o) in
      let grown = placed.appended e o ∙ ap (floats_with (ctx e) (floats e) b) (placed.value e o) in
      subst (λ l. RoomFits (ctx e) (boxes_at at l e) (slot e).top (slot e).tall) (sym c.as_slice.ensures)
      (subst (λ (fs : List FloatBox). RoomFits (ctx e) fs (slot e).top (slot e).tall) (sym grown)
      (room_fits (ctx e) (floats_with (ctx e) (floats e) b (spot_in (ctx e) (floats e) (slot e).least (slot e).top b)) (slot e).least (slot e).top (slot e).tall []
      (next_places (ctx e) (floats e) (slot e).least (slot e).top b [] p.0) p.1)))
      (record { coeff = room.cause.coeff; opens = room.cause.opens }) in
      BlamesButMem-then start (run c.leaves_room.new.calc) (run c.add_spot.new.calc) _ more (Goes-then _ _ _ placed.goes room.goes) c.add_spot.ensures.goes second (λ f e o. tt) c.add_spot.ensures.cause;
}
