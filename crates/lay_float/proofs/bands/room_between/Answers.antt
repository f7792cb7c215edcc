use Rattle.std.proofs.Common.{◌∙◌, arith}
use Rattle.std.specs.Prelude.{⊤}
use Rattle.viz_calc.proofs.Blamed.{Blames-given}
use Rattle.viz_calc.proofs.Runs.{Goes-then, Blames-then}
use Rattle.lay_float.specs.Readings.{box_at, boxes_at}
use Rattle.lay_float.specs.steps.Bands.{room_from}
use Rattle.lay_float.specs.steps.Lent.{room_at}
use Rattle.lay_float.proofs.Loops.{goes-on, ends, room-step, room-end}
use Rattle.lay_float.proofs.bands.room_between.Goals as goal

pub loop-f-preserved : goal.loop-f-preserved
loop-f-preserved g c =
    let at = g.S.Steady.at in
    let run = g.S.Steady.run in
    record {
      goes = Goes-then _ _ _ c.loop-f.invariant.goes c.room_beside-room.ensures.goes;
      value = λ e o.
          goes-on (λ fs s. room_from (at c.args.y.now e) (at c.args.end.now e) (boxes_at at fs e) s) c.args.floats.now c.loop-f.f-index c.f-item.result
          (room_at at c.loop-f.room e) (room_at at c.room_beside-room.result e) c.loop-f-test.true c.f-item.is
          (room-step (at c.args.y.now e) (at c.args.end.now e) (box_at at c.f-item.result e) _ _ _ (c.room_beside-room.ensures.value e o))
          ∙ c.loop-f.invariant.value e (c.room_beside-room.ensures.goes.closes e o);
      cause = Blames-then (run c.args.calc.now) (run c.loop-f.calc) (run c.room_beside-room.new.calc) _ ⊤ c.loop-f.invariant.goes c.room_beside-room.ensures.goes c.loop-f.invariant.cause (λ t e o. tt) c.room_beside-room.ensures.cause;
    }

pub returns : goal.returns
returns g c = record {
  goes = c.loop-f.invariant.goes;
  value = λ e o.
      let at = g.S.Steady.at in
      room-end (at c.args.y.now e) (at c.args.end.now e) (room_at at c.loop-f.room e)
      ∙ ends (λ fs s. room_from (at c.args.y.now e) (at c.args.end.now e) (boxes_at at fs e) s) c.args.floats.now c.loop-f.f-index (room_at at c.loop-f.room e) (omega arith)
      ∙ c.loop-f.invariant.value e o;
  cause = Blames-given _ _ _ _ (λ f. tt) c.loop-f.invariant.cause;
}
