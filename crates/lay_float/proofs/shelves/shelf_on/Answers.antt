use Rattle.std.proofs.Common.{◌∙◌, arith}
use Rattle.std.specs.Prelude.{⊤}
use Rattle.viz_calc.proofs.Blamed.{Blames-given}
use Rattle.viz_calc.proofs.Runs.{Goes-then, Blames-then}
use Rattle.lay_float.specs.Readings.{box_at, boxes_at}
use Rattle.lay_float.specs.steps.Lent.{shelf_at}
use Rattle.lay_float.specs.steps.Shelves.{shelf_from}
use Rattle.lay_float.proofs.Loops.{goes-on, ends, shelf-step, shelf-end}
use Rattle.lay_float.proofs.shelves.shelf_on.Goals as goal

pub loop-f-preserved : goal.loop-f-preserved
loop-f-preserved g c =
    let at = g.S.Steady.at in
    let run = g.S.Steady.run in
    record {
      goes = Goes-then _ _ _ c.loop-f.invariant.goes c.with_float-shelf.ensures.goes;
      value = λ e o.
          goes-on (λ fs s. shelf_from c.args.side (at c.args.y.now e) (boxes_at at fs e) s) c.args.floats.now c.loop-f.f-index c.f-item.result
          (shelf_at at c.loop-f.shelf e) (shelf_at at c.with_float-shelf.result e) c.loop-f-test.true c.f-item.is
          (shelf-step c.args.side (at c.args.y.now e) (box_at at c.f-item.result e) _ _ _ (c.with_float-shelf.ensures.value e o))
          ∙ c.loop-f.invariant.value e (c.with_float-shelf.ensures.goes.closes e o);
      cause = Blames-then (run c.args.calc.now) (run c.loop-f.calc) (run c.with_float-shelf.new.calc) _ ⊤ c.loop-f.invariant.goes c.with_float-shelf.ensures.goes c.loop-f.invariant.cause (λ t e o. tt) c.with_float-shelf.ensures.cause;
    }

pub returns : goal.returns
returns g c = record {
  goes = c.loop-f.invariant.goes;
  value = λ e o.
      let at = g.S.Steady.at in
      shelf-end c.args.side (at c.args.y.now e) (shelf_at at c.loop-f.shelf e)
      ∙ ends (λ fs s. shelf_from c.args.side (at c.args.y.now e) (boxes_at at fs e) s) c.args.floats.now c.loop-f.f-index (shelf_at at c.loop-f.shelf e) (omega arith)
      ∙ c.loop-f.invariant.value e o;
  cause = Blames-given _ _ _ _ (λ f. tt) c.loop-f.invariant.cause;
}
