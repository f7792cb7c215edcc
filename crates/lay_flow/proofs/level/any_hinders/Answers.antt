use Rattle.std.proofs.Common.{◌∙◌, arith}
use Rattle.std.specs.Prelude.{⊤}
use Rattle.viz_calc.proofs.Blamed.{Blames-given}
use Rattle.viz_calc.proofs.Runs.{Goes-then, Blames-then}
use Rattle.lay_float.specs.Readings.{box_at}
use Rattle.lay_float.proofs.Loops.{any-passed, any-found, none-left}
use Rattle.lay_flow.specs.Levels.{hinders}
use Rattle.lay_flow.proofs.level.any_hinders.Goals as goal

pub loop-f-preserved : goal.loop-f-preserved
loop-f-preserved g c =
    let at = g.S.Steady.at in
    let run = g.S.Steady.run in
    record {
      goes = Goes-then _ _ _ c.loop-f.invariant.goes c.hinders.ensures.goes;
      value = λ e o.
          any-passed (hinders (at c.args.from.now e) (at c.args.to.now e)) (λ f. box_at at f e) c.args.floats.now c.loop-f.f-index c.f-item.result c.loop-f-test.true c.f-item.is
          (c.if-hinders.ensures.value e o)
          ∙ c.loop-f.invariant.value e (c.hinders.ensures.goes.closes e o);
      cause = Blames-then (run c.args.calc.now) (run c.loop-f.calc) (run c.hinders.new.calc) _ ⊤ c.loop-f.invariant.goes c.hinders.ensures.goes c.loop-f.invariant.cause (λ t e o. tt) c.hinders.ensures.cause;
    }

pub returns-then-hinders : goal.returns-then-hinders
returns-then-hinders g c = record {
  goes = Goes-then _ _ _ c.loop-f.invariant.goes c.hinders.ensures.goes;
  value = λ e o.
      let at = g.S.Steady.at in
      any-found (hinders (at c.args.from.now e) (at c.args.to.now e)) (λ f. box_at at f e) c.args.floats.now c.loop-f.f-index c.f-item.result c.loop-f-test.true c.f-item.is
      (c.if-hinders.ensures.value e o)
      ∙ c.loop-f.invariant.value e (c.hinders.ensures.goes.closes e o);
  cause =
      let run = g.S.Steady.run in
      Blames-then (run c.args.calc.now) (run c.loop-f.calc) (run c.hinders.new.calc) _ _ c.loop-f.invariant.goes c.hinders.ensures.goes
      (Blames-given _ _ _ _ (λ f. tt) c.loop-f.invariant.cause) (λ f e o. tt) c.hinders.ensures.cause;
}

pub returns : goal.returns
returns g c = record {
  goes = c.loop-f.invariant.goes;
  value = λ e o.
      let at = g.S.Steady.at in
      none-left (hinders (at c.args.from.now e) (at c.args.to.now e)) (λ f. box_at at f e) c.args.floats.now c.loop-f.f-index (omega arith) ∙ c.loop-f.invariant.value e o;
  cause = Blames-given _ _ _ _ (λ f. tt) c.loop-f.invariant.cause;
}
