use Rattle.std.proofs.Common.{ap, arith}
use Rattle.std.proofs.lemmas.Grind.{common_steps}
use Rattle.viz_calc.proofs.Runs.{Goes-then, Blames-then}
use Rattle.lay_line.specs.Items.{item_of}
use Rattle.lay_line.specs.Readings.{held_at}
use Rattle.lay_line.specs.Limits.{held_size}
use Rattle.lay_preferred.proofs.PartLoops.{leasts-next}
use Rattle.lay_preferred.proofs.Sizes.{after-fits, after-reach}
use Rattle.lay_preferred.proofs.parts.least_held.Goals as goal

pub loop-piece-preserved : goal.loop-piece-preserved
loop-piece-preserved g c =
    let at = g.S.Steady.at in
    let run = g.S.Steady.run in
    let step = c.least_after-held.ensures in
    let before = c.loop-piece.invariant in
    record {
      goes = Goes-then (run c.args.calc.now) (run c.loop-piece.calc) (run c.least_after-held.new.calc) before.goes step.goes;
      value = λ e o.
          let so_far = before.value e (step.goes.closes e o) in
          let is = step.value e o in
          grind (arith, common_steps);
      room = λ e o.
          let so_far = before.room e (step.goes.closes e o) in
          let next = leasts-next at e c.args.part.now c.loop-piece.piece-index c.piece-item.result c.loop-piece-test.true c.piece-item.is in
          let grown = after-reach (at c.piece-item.result.width.least e) (held_at at c.loop-piece.held e) (item_of c.piece-item.result.item) in
          let same = ap held_size (step.value e o) in
          omega (arith, next, so_far, grown, same);
      cause = Blames-then (run c.args.calc.now) (run c.loop-piece.calc) (run c.least_after-held.new.calc) _ _ before.goes step.goes before.cause
          (λ f e o.
          let so_far = before.room e o in
          let all = f e (before.goes.closes e o) in
          let next = leasts-next at e c.args.part.now c.loop-piece.piece-index c.piece-item.result c.loop-piece-test.true c.piece-item.is in
          after-fits (at c.piece-item.result.width.least e) (held_at at c.loop-piece.held e) (item_of c.piece-item.result.item) (omega (arith, next, so_far, all)))
          step.cause;
    }
