use Rattle.viz_calc.proofs.Runs.{Goes-then, Blames-then}
use Rattle.lay_float.proofs.brackets.sampled.Goals as goal

pub loop-passed-preserved : goal.loop-passed-preserved
loop-passed-preserved g c =
    let run = g.S.Steady.run in
    record {
      goes = Goes-then _ _ _ c.loop-passed.invariant.goes c.visited_at-closer.ensures.goes;
      value = λ e o high is. c.visited_at-closer.ensures.value e o high (c.loop-passed.invariant.value e (c.visited_at-closer.ensures.goes.closes e o) high is);
      cause = Blames-then (run c.args.calc.now) (run c.loop-passed.calc) (run c.visited_at-closer.new.calc) _ _ c.loop-passed.invariant.goes c.visited_at-closer.ensures.goes c.loop-passed.invariant.cause
          (λ f e o. f e (c.loop-passed.invariant.goes.closes e o)) c.visited_at-closer.ensures.cause;
    }
