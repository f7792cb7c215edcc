use Rattle.std.proofs.Common.{◌+◌, ◌≤◌, ◌^◌, drop, sym, subst, arith}
use Rattle.std.proofs.lemmas.Grind.{common_steps}
use Rattle.viz_calc.proofs.Runs.{Goes-then, BlamesButMem-then}
use Rattle.std.specs.Prelude.{unsigned_abs}
use Rattle.lay_line.specs.Limits.{weight}
use Rattle.lay_line.specs.Readings.{piece_at, pieces_at, row_at}
use Rattle.lay_line.specs.steps.Measured.{Row}
use Rattle.lay_line.proofs.HeldSizes.{stand_within, row_grows, weight_next, room_for, room_left}
use Rattle.lay_line.proofs.places.row_of.Goals as goal

pub loop-piece-preserved : goal.loop-piece-preserved
loop-piece-preserved g c =
    let at = g.S.Steady.at in
    let run = g.S.Steady.run in
    let p = c.piece-item.result in
    let k = c.loop-piece.piece-index in
    let all = c.args.pieces.now in
    record {
      goes = Goes-then _ _ _ c.loop-piece.invariant.goes c.row_after-row.ensures.goes;
      value = λ e o. grind (arith, common_steps);
      size = λ e o.
          let o1 = c.row_after-row.ensures.goes.closes e o in
          let r = row_at at c.loop-piece.row e in
          room_left (unsigned_abs r.x) (unsigned_abs (at c.row_after-row.result.x e)) (unsigned_abs (at p.width e)) (weight (pieces_at at (drop (k + 1) all) e)) (weight (pieces_at at (drop k all) e)) _
          (weight_next at e all k p c.loop-piece-test.true c.piece-item.is)
          (subst (λ (n : Row). unsigned_abs n.x ≤ unsigned_abs r.x + unsigned_abs (at p.width e)) (sym (c.row_after-row.ensures.value e o)) (row_grows r (piece_at at p e)))
          (c.loop-piece.invariant.size e o1);
      cause = BlamesButMem-then (run c.args.calc.now) (run c.loop-piece.calc) (run c.row_after-row.new.calc) _ _ c.loop-piece.invariant.goes c.row_after-row.ensures.goes c.loop-piece.invariant.cause
          (λ f e o.
          let x = at c.loop-piece.row.x e in
          stand_within (2 ^ 100) x (at p.width e)
          (room_for (2 ^ 100) (unsigned_abs x) (unsigned_abs (at p.width e)) (weight (pieces_at at (drop (k + 1) all) e)) (weight (pieces_at at (drop k all) e)) _
          (weight_next at e all k p c.loop-piece-test.true c.piece-item.is) (c.loop-piece.invariant.size e o) (f e (c.loop-piece.invariant.goes.closes e o))))
          c.row_after-row.ensures.cause;
    }
