use Rattle.std.proofs.Common.{◌∙◌, arith}
use Rattle.viz_calc.proofs.Runs.{Goes-then, Blames-then}
use Rattle.viz_calc.specs.Renderings.{band_at}
use Rattle.lay_float.specs.Readings.{box_at, boxes_at}
use Rattle.lay_float.specs.steps.Lent.{bracket_at}
use Rattle.lay_float.specs.steps.Brackets.{visited_all}
use Rattle.lay_float.proofs.Loops.{goes-on, ends}
use Rattle.lay_float.proofs.BetweenTops.{visited-step, visited-end}
use Rattle.lay_float.proofs.brackets.closed.Goals as goal

pub loop-f-preserved : goal.loop-f-preserved
loop-f-preserved g c =
    let at = g.S.Steady.at in
    let run = g.S.Steady.run in
    let w = c.args.wanted.now in
    record {
      goes = Goes-then _ _ _ c.loop-f.invariant.goes c.visited-closer.ensures.goes;
      value = λ e o.
          goes-on (λ fs s. visited_all (boxes_at at w.floats.now e) w.side (at w.width.now e) (band_at at w.cb.now e) (boxes_at at fs e) s) w.floats.now c.loop-f.f-index c.f-item.result
          (bracket_at at c.loop-f.closer e) (bracket_at at c.visited-closer.result e) c.loop-f-test.true c.f-item.is
          (visited-step (boxes_at at w.floats.now e) w.side (at w.width.now e) (band_at at w.cb.now e) (box_at at c.f-item.result e) _ _ _ (c.visited-closer.ensures.value e o))
          ∙ c.loop-f.invariant.value e (c.visited-closer.ensures.goes.closes e o);
      cause = Blames-then (run c.args.calc.now) (run c.loop-f.calc) (run c.visited-closer.new.calc) _ _ c.loop-f.invariant.goes c.visited-closer.ensures.goes c.loop-f.invariant.cause
          (λ f e o. f e (c.loop-f.invariant.goes.closes e o)) c.visited-closer.ensures.cause;
    }

pub returns-clause-value : goal.returns-clause-value
returns-clause-value g c = λ e o.
    let at = g.S.Steady.at in
    let w = c.args.wanted.now in
    visited-end (boxes_at at w.floats.now e) w.side (at w.width.now e) (band_at at w.cb.now e) (bracket_at at c.loop-f.closer e)
    ∙ ends (λ fs s. visited_all (boxes_at at w.floats.now e) w.side (at w.width.now e) (band_at at w.cb.now e) (boxes_at at fs e) s) w.floats.now c.loop-f.f-index (bracket_at at c.loop-f.closer e) (omega arith)
    ∙ c.loop-f.invariant.value e o
