use Rattle.std.proofs.Common.{◌-◌, ◌+◌, length, ap, sym, ◌∙◌, arith}
use Rattle.viz_calc.proofs.Runs.{Goes-then, Blames-then}
use Rattle.viz_calc.specs.Renderings.{band_at}
use Rattle.lay_float.specs.Readings.{boxes_at}
use Rattle.lay_float.specs.steps.Lent.{FitsAnywhere}
use Rattle.lay_float.specs.steps.Shelves.{free_top, place_on}
use Rattle.lay_float.proofs.Spots.{found-here, not-here, at-end}
use Rattle.lay_float.proofs.shelves.place_among_few.Goals as goal

pub returns-in-Some-clause-value : goal.returns-in-Some-clause-value
returns-in-Some-clause-value g c = λ e o.
    let at = g.S.Steady.at in
    found-here (length c.args.floats.now) c.loop-passed.passed (boxes_at at c.args.floats.now e) c.args.side (at c.args.width.now e) (band_at at c.args.cb.now e)
    (at c.loop-passed.y.now e) (at c.in-Some.edge.now e) _ (omega arith) (c.in-Some.ensures.value e o)
    (c.loop-passed.invariant.value e (c.stand.ensures.goes.closes e o))

pub loop-passed-preserved : goal.loop-passed-preserved
loop-passed-preserved g c =
    let at = g.S.Steady.at in
    let run = g.S.Steady.run in
    record {
      goes = Goes-then _ _ _ c.loop-passed.invariant.goes (Goes-then _ _ _ c.stand.ensures.goes c.next_top-y.ensures.goes);
      value = λ e o.
          let o1 = c.next_top-y.ensures.goes.closes e o in
          ap (free_top (length c.args.floats.now - (c.loop-passed.passed + 1)) (boxes_at at c.args.floats.now e) c.args.side (at c.args.width.now e) (band_at at c.args.cb.now e))
          (c.next_top-y.ensures.value e o)
          ∙ not-here (length c.args.floats.now) c.loop-passed.passed (boxes_at at c.args.floats.now e) c.args.side (at c.args.width.now e) (band_at at c.args.cb.now e)
          (at c.loop-passed.y.now e) (omega arith) (c.in_default.ensures.value e o1)
          ∙ c.loop-passed.invariant.value e (c.stand.ensures.goes.closes e o1);
      cause =
          let whole = FitsAnywhere (run c.args.calc.now) at c.args.floats.now c.args.side c.args.cb.now c.args.width.now in
          let here = FitsAnywhere (run c.loop-passed.calc) at c.args.floats.now c.args.side c.args.cb.now c.args.width.now in
          let first = Blames-then (run c.args.calc.now) (run c.loop-passed.calc) (run c.stand.new.calc) here whole c.loop-passed.invariant.goes c.stand.ensures.goes c.loop-passed.invariant.cause
          (λ f e o. f e (c.loop-passed.invariant.goes.closes e o)) c.stand.ensures.cause in
          Blames-then (run c.args.calc.now) (run c.stand.new.calc) (run c.next_top-y.new.calc) _ whole (Goes-then _ _ _ c.loop-passed.invariant.goes c.stand.ensures.goes) c.next_top-y.ensures.goes first
          (λ f e o. tt) c.next_top-y.ensures.cause;
    }

pub returns-clause-value : goal.returns-clause-value
returns-clause-value g c = λ e o.
    let at = g.S.Steady.at in
    c.farthest.ensures.value e o
    ∙ ap (place_on (boxes_at at c.args.floats.now e) c.args.side (band_at at c.args.cb.now e))
    (sym (at-end (length c.args.floats.now) c.loop-passed.passed (boxes_at at c.args.floats.now e) c.args.side (at c.args.width.now e) (band_at at c.args.cb.now e) (at c.loop-passed.y.now e) (omega arith))
    ∙ c.loop-passed.invariant.value e (c.farthest.ensures.goes.closes e o))
