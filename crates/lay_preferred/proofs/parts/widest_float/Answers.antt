use Rattle.std.proofs.Common.{arith}
use Rattle.std.proofs.lemmas.Grind.{common_steps}
use Rattle.viz_calc.proofs.Runs.{Goes-then, Blames-then}
use Rattle.lay_preferred.proofs.PartLoops.{leasts-next}
use Rattle.lay_preferred.proofs.parts.widest_float.Goals as goal

pub loop-piece-preserved : goal.loop-piece-preserved
loop-piece-preserved g c =
    let at = g.S.Steady.at in
    let run = g.S.Steady.run in
    let step = c.past_float-best.ensures in
    let before = c.loop-piece.invariant in
    record {
      goes = Goes-then (run c.args.calc.now) (run c.loop-piece.calc) (run c.past_float-best.new.calc) before.goes step.goes;
      value = λ e o.
          let so_far = before.value e (step.goes.closes e o) in
          let is = step.value e o in
          grind (arith, common_steps);
      room = λ e.
          let so_far = before.room e in
          let next = leasts-next at e c.args.pieces.now c.loop-piece.piece-index c.piece-item.result c.loop-piece-test.true c.piece-item.is in
          omega (arith, so_far, next);
      cause = Blames-then (run c.args.calc.now) (run c.loop-piece.calc) (run c.past_float-best.new.calc) _ _ before.goes step.goes before.cause
          (λ f e o.
          let so_far = before.room e in
          let all = f e (before.goes.closes e o) in
          let next = leasts-next at e c.args.pieces.now c.loop-piece.piece-index c.piece-item.result c.loop-piece-test.true c.piece-item.is in
          (omega (arith, so_far, all, next), tt))
          step.cause;
    }
