use Rattle.std.proofs.Common.{◌∙◌, arith}
use Rattle.std.specs.Prelude.{⊤}
use Rattle.viz_calc.proofs.Blamed.{Blames-given}
use Rattle.viz_calc.proofs.Runs.{Goes-then, Blames-then}
use Rattle.lay_float.specs.Readings.{box_at, boxes_at}
use Rattle.lay_float.specs.steps.Lent.{lent_at}
use Rattle.lay_float.specs.steps.Shelves.{soonest}
use Rattle.lay_float.proofs.Loops.{goes-on, ends, soonest-step, soonest-end}
use Rattle.lay_float.proofs.shelves.soonest.Goals as goal

pub loop-f-preserved : goal.loop-f-preserved
loop-f-preserved g c =
    let at = g.S.Steady.at in
    let run = g.S.Steady.run in
    record {
      goes = Goes-then _ _ _ c.loop-f.invariant.goes c.sooner-best.ensures.goes;
      value = λ e o.
          goes-on (λ fs s. soonest (at c.args.y.now e) (boxes_at at fs e) s) c.args.floats.now c.loop-f.f-index c.f-item.result
          (lent_at at c.loop-f.best e) (lent_at at c.sooner-best.result e) c.loop-f-test.true c.f-item.is
          (soonest-step (at c.args.y.now e) (box_at at c.f-item.result e) _ _ _ (c.sooner-best.ensures.value e o))
          ∙ c.loop-f.invariant.value e (c.sooner-best.ensures.goes.closes e o);
      cause = Blames-then (run c.args.calc.now) (run c.loop-f.calc) (run c.sooner-best.new.calc) _ ⊤ c.loop-f.invariant.goes c.sooner-best.ensures.goes c.loop-f.invariant.cause (λ t e o. tt) c.sooner-best.ensures.cause;
    }

pub returns : goal.returns
returns g c = record {
  goes = c.loop-f.invariant.goes;
  value = λ e o.
      let at = g.S.Steady.at in
      soonest-end (at c.args.y.now e) (lent_at at c.loop-f.best e)
      ∙ ends (λ fs s. soonest (at c.args.y.now e) (boxes_at at fs e) s) c.args.floats.now c.loop-f.f-index (lent_at at c.loop-f.best e) (omega arith)
      ∙ c.loop-f.invariant.value e o;
  cause = Blames-given _ _ _ _ (λ f. tt) c.loop-f.invariant.cause;
}
