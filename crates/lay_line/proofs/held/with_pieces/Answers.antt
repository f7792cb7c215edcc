use Rattle.std.proofs.Common.{◌+◌, ◌≤◌, ◌^◌, drop, sym, subst, arith}
use Rattle.std.proofs.lemmas.Grind.{common_steps}
use Rattle.viz_calc.proofs.Runs.{Goes-then, Blames-then}
use Rattle.std.specs.Prelude.{unsigned_abs}
use Rattle.lay_line.specs.Items.{item_of}
use Rattle.lay_line.specs.Limits.{held_size, weight}
use Rattle.lay_line.specs.Readings.{held_at, pieces_at}
use Rattle.lay_line.specs.steps.Held.{Held}
use Rattle.lay_line.proofs.HeldSizes.{item_within, item_grows, weight_next, room_for, room_left}
use Rattle.lay_line.proofs.held.with_pieces.Goals as goal

pub loop-piece-preserved : goal.loop-piece-preserved
loop-piece-preserved g c =
    let at = g.S.Steady.at in
    let run = g.S.Steady.run in
    let p = c.piece-item.result in
    let k = c.loop-piece.piece-index in
    let all = c.args.pieces.now in
    record {
      goes = Goes-then _ _ _ c.loop-piece.invariant.goes c.with_item-held.ensures.goes;
      value = λ e o. grind (arith, common_steps);
      size = λ e o.
          let o1 = c.with_item-held.ensures.goes.closes e o in
          let h = held_at at c.loop-piece.held e in
          room_left (held_size h) (held_size (held_at at c.with_item-held.result e)) (unsigned_abs (at p.width e)) (weight (pieces_at at (drop (k + 1) all) e)) (weight (pieces_at at (drop k all) e)) _
          (weight_next at e all k p c.loop-piece-test.true c.piece-item.is)
          (subst (λ (n : Held). held_size n ≤ held_size h + unsigned_abs (at p.width e)) (sym (c.with_item-held.ensures.value e o)) (item_grows (at p.width e) h (item_of p.item)))
          (c.loop-piece.invariant.size e o1);
      cause = Blames-then (run c.args.calc.now) (run c.loop-piece.calc) (run c.with_item-held.new.calc) _ _ c.loop-piece.invariant.goes c.with_item-held.ensures.goes c.loop-piece.invariant.cause
          (λ f e o.
          let h = held_at at c.loop-piece.held e in
          item_within (2 ^ 100) (at p.width e) h
          (room_for (2 ^ 100) (held_size h) (unsigned_abs (at p.width e)) (weight (pieces_at at (drop (k + 1) all) e)) (weight (pieces_at at (drop k all) e)) _
          (weight_next at e all k p c.loop-piece-test.true c.piece-item.is) (c.loop-piece.invariant.size e o) (f e (c.loop-piece.invariant.goes.closes e o)))
          (item_of p.item))
          c.with_item-held.ensures.cause;
    }
