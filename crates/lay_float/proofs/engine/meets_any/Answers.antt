use Rattle.std.proofs.Common.{ap, ◌∙◌}
use Rattle.std.specs.List.{list_any}
use Rattle.viz_calc.proofs.Runs.{Goes-then, Blames-then}
use Rattle.lay_float.specs.Readings.{boxes_at}
use Rattle.lay_float.specs.steps.Bands.{meets_between}
use Rattle.lay_float.proofs.engine.meets_any.Goals as goal

pub returns : goal.returns
returns g c = record {
  goes = Goes-then _ _ _ c.add-end.ensures.goes c.any_between.ensures.goes;
  value = λ e o.
      let at = g.S.Steady.at in
      c.any_between.ensures.value e o
      ∙ ap (λ end. list_any (meets_between (at c.args.y.now e) end) (boxes_at at c.args.floats.now e)) (c.add-end.ensures.value e (c.any_between.ensures.goes.closes e o));
  cause =
      let run = g.S.Steady.run in
      Blames-then (run c.args.calc.now) (run c.add-end.new.self) (run c.any_between.new.calc) _ _ c.add-end.ensures.goes c.any_between.ensures.goes c.add-end.ensures.cause (λ f e o. tt)
      c.any_between.ensures.cause;
}
