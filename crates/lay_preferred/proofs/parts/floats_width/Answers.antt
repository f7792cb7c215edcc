use Rattle.std.proofs.Common.{unsigned_abs, ap, arith}
use Rattle.std.proofs.lemmas.Grind.{common_steps}
use Rattle.viz_calc.proofs.Runs.{Goes-then, Blames-then}
use Rattle.lay_line.specs.Items.{item_of}
use Rattle.lay_preferred.specs.Readings.{size_at}
use Rattle.lay_preferred.proofs.PartLoops.{mosts-next}
use Rattle.lay_preferred.proofs.Sizes.{sum-reach}
use Rattle.lay_preferred.proofs.parts.floats_width.Goals as goal

pub loop-piece-preserved : goal.loop-piece-preserved
loop-piece-preserved g c =
    let at = g.S.Steady.at in
    let run = g.S.Steady.run in
    let step = c.with_float-sum.ensures in
    let before = c.loop-piece.invariant in
    record {
      goes = Goes-then (run c.args.calc.now) (run c.loop-piece.calc) (run c.with_float-sum.new.calc) before.goes step.goes;
      value = λ e o.
          let so_far = before.value e (step.goes.closes e o) in
          let is = step.value e o in
          grind (arith, common_steps);
      room = λ e o.
          let so_far = before.room e (step.goes.closes e o) in
          let next = mosts-next at e c.args.part.now c.loop-piece.piece-index c.piece-item.result c.loop-piece-test.true c.piece-item.is in
          let grown = sum-reach (at c.loop-piece.sum e) (size_at at c.piece-item.result e) (item_of c.piece-item.result.item) in
          let same = ap unsigned_abs (step.value e o) in
          omega (arith, next, so_far, grown, same);
      cause = Blames-then (run c.args.calc.now) (run c.loop-piece.calc) (run c.with_float-sum.new.calc) _ _ before.goes step.goes before.cause
          (λ f e o.
          let so_far = before.room e o in
          let all = f e (before.goes.closes e o) in
          let next = mosts-next at e c.args.part.now c.loop-piece.piece-index c.piece-item.result c.loop-piece-test.true c.piece-item.is in
          (let grown = sum-reach (at c.loop-piece.sum e) (size_at at c.piece-item.result e) (item_of c.piece-item.result.item) in omega (arith, next, so_far, all, grown), tt))
          step.cause;
    }
