use Rattle.std.proofs.Common.{◌∷◌, sym, subst, arith}
use Rattle.std.proofs.lemmas.Grind.{common_steps}
use Rattle.std.specs.Option.{option_to_list}
use Rattle.viz_calc.specs.World.{Reading}
use Rattle.viz_calc.proofs.Runs.{BlamesButMem-then}
use Rattle.lay_float.specs.Limits.{IsHalf, AreHalf}
use Rattle.lay_float.specs.Readings.{boxes_at}
use Rattle.lay_float.specs.steps.Lent.{lent_at}
use Rattle.lay_float.proofs.Rooms.{top_half}
use Rattle.lay_float.proofs.trial.spot_among.Goals as goal

pub returns : goal.returns
returns g c = record {
  goes = grind (arith, common_steps);
  value = grind (arith, common_steps);
  cause =
      let at = g.S.Steady.at in
      let run = g.S.Steady.run in
      let fs = (λ (e : Reading). boxes_at at c.args.floats.now e) in
      let least = (λ (e : Reading). lent_at at c.args.least e) in
      let y = (λ (e : Reading). at c.args.y.now e) in
      let f = c.args.f.now in
      let asks = (λ (e : Reading). AreHalf (fs e) (at f.size.now.width e ∷ at f.cb.now.left e ∷ at f.cb.now.right e ∷ y e ∷ option_to_list (least e))) in
      let given : (e : Reading) → asks e → AreHalf (fs e) (y e ∷ option_to_list (least e)) = λ e a. record { edges = a.edges; numbers = a.numbers.1.1.1 } in
      let top = c.float_top-top.ensures in
      let at_last = c.float_at.ensures in
      BlamesButMem-then (run c.args.calc.now) (run c.float_top-top.new.calc) (run c.float_at.new.calc) _ _ top.goes at_last.goes
      (record { coeff = λ h. top.cause.coeff (λ e o. given e (h e o)); opens = top.cause.opens })
      (λ h e o.
      let a = h e (top.goes.closes e o) in
      let half = subst IsHalf (sym (top.value e o)) (top_half f.clear (fs e) (least e) (y e) (given e a)) in
      record { edges = a.edges; numbers = (a.numbers.0, (a.numbers.1.0, (a.numbers.1.1.0, (half, tt)))) })
      (record { coeff = at_last.cause.coeff; opens = at_last.cause.opens });
}
