use Rattle.std.proofs.Common.{ap, ◌∙◌}
use Rattle.viz_calc.proofs.Runs.{Goes-then, Blames-then}
use Rattle.viz_calc.specs.Renderings.{band_at}
use Rattle.layout_semantics.specs.Floats.{meets}
use Rattle.lay_float.specs.Readings.{boxes_at}
use Rattle.lay_float.specs.steps.Bands.{room_from}
use Rattle.lay_float.specs.steps.Lent.{room_at}
use Rattle.lay_float.proofs.Rooms.{room_is}
use Rattle.lay_float.proofs.Spots.{room_fits, sum_fits}
use Rattle.lay_float.proofs.engine.band.Goals as goal

pub returns : goal.returns
returns g c = record {
  goes = Goes-then _ _ _ (Goes-then _ _ _ (Goes-then _ _ _ c.add-end.ensures.goes c.room_between-room.ensures.goes) c.copy-left.ensures.goes) c.copy-right.ensures.goes;
  value = λ e o.
      let at = g.S.Steady.at in
      let o1 = c.copy-right.ensures.goes.closes e o in
      let o2 = c.copy-left.ensures.goes.closes e o1 in
      let o3 = c.room_between-room.ensures.goes.closes e o2 in
      ap (λ x. record { left = x; right = at c.copy-right.result e }) (c.copy-left.ensures.value e o1)
      ∙ ap (λ x. record { left = at c.room_between-room.result.left.now e; right = x }) (c.copy-right.ensures.value e o)
      ∙ c.room_between-room.ensures.value e o2
      ∙ ap (λ z. room_from (at c.args.y.now e) z (boxes_at at c.args.floats.now e) (band_at at c.args.cb.now e)) (c.add-end.ensures.value e o3)
      ∙ room_is (at c.args.y.now e) _ (boxes_at at c.args.floats.now e) (band_at at c.args.cb.now e);
  cause =
      let at = g.S.Steady.at in
      let run = g.S.Steady.run in
      let goes = Goes-then _ _ _ c.add-end.ensures.goes c.room_between-room.ensures.goes in
      let first = Blames-then (run c.args.calc.now) (run c.add-end.new.self) (run c.room_between-room.new.calc) _ _ c.add-end.ensures.goes c.room_between-room.ensures.goes
      (record {
        mem = c.add-end.ensures.cause.mem;
        coeff = λ f. c.add-end.ensures.cause.coeff (λ e o. sum_fits (at c.args.y.now e) (at c.args.h.now e) (f e o).numbers.1.1.0 (f e o).numbers.1.1.1.0);
        opens = c.add-end.ensures.cause.opens;
      })
      (λ f e o. tt) c.room_between-room.ensures.cause in
      let second = Blames-then (run c.args.calc.now) (run c.room_between-room.new.calc) (run c.copy-left.new.self) _ _ goes c.copy-left.ensures.goes first
      (λ f e o.
      let o3 = c.room_between-room.ensures.goes.closes e o in
      let half = f e (c.add-end.ensures.goes.closes e o3) in
      let room = c.room_between-room.ensures.value e o
      ∙ ap (λ z. room_from (at c.args.y.now e) z (boxes_at at c.args.floats.now e) (band_at at c.args.cb.now e)) (c.add-end.ensures.value e o3)
      ∙ room_is (at c.args.y.now e) _ (boxes_at at c.args.floats.now e) (band_at at c.args.cb.now e) in
      (room_fits (boxes_at at c.args.floats.now e) (band_at at c.args.cb.now e) (meets (at c.args.y.now e) (at c.args.h.now e)) (room_at at c.room_between-room.result e)
      half.edges half.numbers.0 half.numbers.1.0 room).0)
      c.copy-left.ensures.cause in
      Blames-then (run c.args.calc.now) (run c.copy-left.new.self) (run c.copy-right.new.self) _ _ (Goes-then _ _ _ goes c.copy-left.ensures.goes) c.copy-right.ensures.goes second
      (λ f e o.
      let o2 = c.copy-left.ensures.goes.closes e o in
      let o3 = c.room_between-room.ensures.goes.closes e o2 in
      let half = f e (c.add-end.ensures.goes.closes e o3) in
      let room = c.room_between-room.ensures.value e o2
      ∙ ap (λ z. room_from (at c.args.y.now e) z (boxes_at at c.args.floats.now e) (band_at at c.args.cb.now e)) (c.add-end.ensures.value e o3)
      ∙ room_is (at c.args.y.now e) _ (boxes_at at c.args.floats.now e) (band_at at c.args.cb.now e) in
      (room_fits (boxes_at at c.args.floats.now e) (band_at at c.args.cb.now e) (meets (at c.args.y.now e) (at c.args.h.now e)) (room_at at c.room_between-room.result e)
      half.edges half.numbers.0 half.numbers.1.0 room).1)
      c.copy-right.ensures.cause;
}
