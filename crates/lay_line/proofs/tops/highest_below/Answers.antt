use Rattle.std.proofs.Common.{sym, arith}
use Rattle.std.proofs.lemmas.Grind.{common_steps}
use Rattle.viz_calc.specs.World.{Reading}
use Rattle.layout_laws.proofs.Members.{to_map}
use Rattle.lay_float.specs.Readings.{box_at, boxes_at}
use Rattle.lay_float.proofs.Spots.{half_small}
use Rattle.lay_line.specs.Contexts.{context_at}
use Rattle.lay_line.specs.Limits.{RoomFits}
use Rattle.lay_line.proofs.Chains.{Chain, next}
use Rattle.lay_line.proofs.tops.highest_below.Goals as goal

pub loop-f-preserved : goal.loop-f-preserved
loop-f-preserved g c =
    let at = g.S.Steady.at in
    let run = g.S.Steady.run in
    let wanted = c.args.wanted.now in
    let all = wanted.floats.now in
    let f = c.f-item.result in
    let so_far : Chain (run c.args.calc.now) (run c.loop-f.calc) (λ (e : Reading). RoomFits (context_at at wanted.container.now e) (boxes_at at all e) (at wanted.y.now e) (at wanted.tall.now e)) =
    record { goes = c.loop-f.invariant.goes; cause = c.loop-f.invariant.cause } in
    let then = next so_far c.with_bottom-best.ensures.goes c.with_bottom-best.ensures.cause (λ half e o.
    let room = half e o in
    let edges = room.edges (box_at at f e) (to_map (λ x. box_at at x e) all f (c.loop-f.f-index, c.loop-f-test.true, sym c.f-item.is)) in
    (record { edges = room.edges; numbers = (room.numbers.0, (room.numbers.1.0, (edges.1.1.1.0, (room.numbers.1.1.1.0, tt)))) }, (half_small (at f.outer.bottom e) edges.1.1.1.0, tt))) in
    record {
      goes = then.goes;
      value = λ e o. grind (arith, common_steps);
      cause = then.cause;
    }
