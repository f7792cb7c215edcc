use Rattle.std.proofs.Common.{IsTrue, ◌∷◌, sym, subst, arith}
use Rattle.std.proofs.lemmas.Grind.{common_steps}
use Rattle.std.specs.Option.{option_to_list}
use Rattle.viz_calc.specs.World.{Reading}
use Rattle.viz_calc.proofs.Runs.{Goes-then, BlamesButMem-then}
use Rattle.lay_float.specs.Limits.{AreHalf}
use Rattle.lay_float.specs.Readings.{boxes_at}
use Rattle.lay_float.specs.steps.Lent.{lent_at}
use Rattle.lay_float.specs.TrialReadings.{coming_at}
use Rattle.lay_float.proofs.trial.begin.Goals as goal

pub returns : goal.returns
returns g c = record {
  goes = Goes-then _ _ _ (Goes-then _ _ _ c.copy-all.ensures.goes c.copy-near.ensures.goes) c.try_one.ensures.goes;
  value = grind (arith, common_steps);
  cause =
      let at = g.S.Steady.at in
      let run = g.S.Steady.run in
      let fs = (λ (e : Reading). boxes_at at c.args.floats.now e) in
      let f = (λ (e : Reading). coming_at at c.args.f.now e) in
      let numbers = (λ (e : Reading). (f e).size.width ∷ (f e).size.height ∷ (f e).cb.left ∷ (f e).cb.right ∷ at c.args.y.now e ∷ option_to_list (lent_at at c.args.least e)) in
      let one = c.copy-all.ensures in
      let two = c.copy-near.ensures in
      let last = c.try_one.ensures in
      let goes = Goes-then _ _ _ one.goes two.goes in
      let first = BlamesButMem-then (run c.args.calc.now) (run c.copy-all.new.calc) (run c.copy-near.new.calc) _ ((e : Reading) → IsTrue ((run c.args.calc.now).is_open e) → AreHalf (fs e) (numbers e)) one.goes two.goes
      (record { coeff = λ h. one.cause.coeff (λ e o. record { edges = (h e o).edges; numbers = tt }); opens = one.cause.opens })
      (λ h e o. record { edges = (h e (one.goes.closes e o)).edges; numbers = tt }) two.cause in
      BlamesButMem-then (run c.args.calc.now) (run c.copy-near.new.calc) (run c.try_one.new.calc) _ _ goes last.goes first
      (λ h e o. subst (λ l. AreHalf l (numbers e)) (sym (two.value e o)) (h e (goes.closes e o))) last.cause;
}
