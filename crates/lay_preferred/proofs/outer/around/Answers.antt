use Rattle.std.proofs.Common.{arith}
use Rattle.std.proofs.lemmas.Grind.{common_steps}
use Rattle.viz_calc.proofs.Runs.{Goes-then, Blames-then}
use Rattle.lay_preferred.specs.steps.Outer.{around}
use Rattle.lay_preferred.proofs.outer.around.Goals as goal

pub returns : goal.returns
unfolding around
returns g c = record {
  goes = Goes-then _ _ _ c.with_edges-least.ensures.goes c.with_edges-most.ensures.goes;
  value = grind (arith, common_steps);
  cause =
      let run = g.S.Steady.run in
      let least = c.with_edges-least.ensures in
      let most = c.with_edges-most.ensures in
      Blames-then (run c.args.calc.now) (run c.with_edges-least.new.calc) (run c.with_edges-most.new.calc) _ _ least.goes most.goes
      (record { mem = least.cause.mem; coeff = λ f. least.cause.coeff (λ e o. (f e o).0); opens = least.cause.opens })
      (λ f e o. (f e (least.goes.closes e o)).1)
      most.cause;
}
