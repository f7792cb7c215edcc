use Rattle.std.proofs.Common.{◌+◌, ◌∙◌, arith, map, drop}
use Rattle.std.specs.Prelude.{⊤}
use Rattle.viz_calc.proofs.Blamed.{Blames-given}
use Rattle.viz_calc.proofs.Runs.{Goes-then, Blames-then}
use Rattle.layout_semantics.specs.Floats.{FloatBox, highest_top}
use Rattle.lay_float.specs.Readings.{boxes_at}
use Rattle.lay_float.proofs.Loops.{goes-on, ends, greatest-step}
use Rattle.lay_float.proofs.engine.highest_top.Goals as goal

pub loop-f-preserved : goal.loop-f-preserved
loop-f-preserved g c =
    let at = g.S.Steady.at in
    let run = g.S.Steady.run in
    record {
      goes = Goes-then _ _ _ c.loop-f.invariant.goes c.larger-best.ensures.goes;
      value = λ e o.
          goes-on (λ fs s. highest_top (boxes_at at fs e) s) c.args.floats.now c.loop-f.f-index c.f-item.result
          (at c.loop-f.best.now e) (at c.larger-best.result.now e) c.loop-f-test.true c.f-item.is
          (greatest-step (at c.f-item.result.outer.top e) (map (λ (f : FloatBox). f.box.top) (boxes_at at (drop (c.loop-f.f-index + 1) c.args.floats.now) e)) (at c.loop-f.best.now e) (at c.larger-best.result.now e) (c.larger-best.ensures.value e o))
          ∙ c.loop-f.invariant.value e (c.larger-best.ensures.goes.closes e o);
      cause = Blames-then (run c.args.calc.now) (run c.loop-f.calc) (run c.larger-best.new.calc) _ ⊤ c.loop-f.invariant.goes c.larger-best.ensures.goes c.loop-f.invariant.cause (λ t e o. tt) c.larger-best.ensures.cause;
    }

pub returns : goal.returns
returns g c = record {
  goes = c.loop-f.invariant.goes;
  value = λ e o.
      let at = g.S.Steady.at in
      ends (λ fs s. highest_top (boxes_at at fs e) s) c.args.floats.now c.loop-f.f-index (at c.loop-f.best.now e) (omega arith)
      ∙ c.loop-f.invariant.value e o;
  cause = Blames-given _ _ _ _ (λ f. tt) c.loop-f.invariant.cause;
}
