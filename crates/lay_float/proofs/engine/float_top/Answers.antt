use Rattle.std.proofs.Common.{◌≡◌, ◌∷◌, IsTrue, ap, sym, subst, ◌∙◌}
use Rattle.std.specs.Int.{int_max}
use Rattle.std.specs.Option.{option_to_list}
use Rattle.viz_calc.specs.State.{IsSmall}
use Rattle.viz_calc.specs.World.{Reading}
use Rattle.viz_calc.proofs.Runs.{Goes-then, Blames-then}
use Rattle.layout_semantics.specs.Floats.{float_top}
use Rattle.lay_float.specs.Limits.{AreHalf}
use Rattle.lay_float.specs.Readings.{boxes_at}
use Rattle.lay_float.specs.steps.Lent.{lent_at}
use Rattle.lay_float.proofs.Rooms.{top_small}
use Rattle.lay_float.proofs.engine.float_top.Goals as goal

pub returns-in-Some : goal.returns-in-Some
returns-in-Some g c = record {
  goes = Goes-then _ _ _ (Goes-then _ _ _ c.lowest_or-lowest.ensures.goes c.larger-top.ensures.goes) c.copy.ensures.goes;
  value = λ e o.
      let at = g.S.Steady.at in
      let o1 = c.copy.ensures.goes.closes e o in
      subst (λ l. at c.copy.result e ≡ float_top c.args.clear (boxes_at at c.args.floats.now e) (lent_at at l e) (at c.args.y.now e)) (sym c.in-Some.is)
      (c.copy.ensures.value e o ∙ c.larger-top.ensures.value e o1 ∙ ap (int_max (at c.in-Some.least.now e)) (c.lowest_or-lowest.ensures.value e (c.larger-top.ensures.goes.closes e o1)));
  cause =
      let at = g.S.Steady.at in
      let run = g.S.Steady.run in
      let start = run c.args.calc.now in
      let lowest = c.lowest_or-lowest.ensures in
      let top = c.larger-top.ensures in
      let fs = (λ (e : Reading). boxes_at at c.args.floats.now e) in
      let y = (λ (e : Reading). at c.args.y.now e) in
      let more = (e : Reading) → IsTrue (start.is_open e) → AreHalf (fs e) (y e ∷ option_to_list (lent_at at c.args.least e)) in
      let found = Blames-then start (run c.lowest_or-lowest.new.calc) (run c.larger-top.new.calc) _ more lowest.goes top.goes
      (record { mem = lowest.cause.mem; coeff = λ f. lowest.cause.coeff (λ e o. tt); opens = lowest.cause.opens })
      (λ f e o. tt) top.cause in
      Blames-then start (run c.larger-top.new.calc) (run c.copy.new.self) _ more (Goes-then _ _ _ lowest.goes top.goes) c.copy.ensures.goes found
      (λ f e o. (
        subst IsSmall (sym (top.value e o ∙ ap (int_max (at c.in-Some.least.now e)) (lowest.value e (top.goes.closes e o))))
            (subst (λ l. IsSmall (float_top c.args.clear (fs e) (lent_at at l e) (y e))) c.in-Some.is
            (top_small c.args.clear (fs e) (lent_at at c.args.least e) (y e) (f e (lowest.goes.closes e (top.goes.closes e o))))),
        tt,
      ))
      c.copy.ensures.cause;
}

pub returns-in-None : goal.returns-in-None
returns-in-None g c = record {
  goes = Goes-then _ _ _ c.lowest_or-lowest.ensures.goes c.copy-in-None.ensures.goes;
  value = λ e o.
      let at = g.S.Steady.at in
      subst (λ l. at c.copy-in-None.result e ≡ float_top c.args.clear (boxes_at at c.args.floats.now e) (lent_at at l e) (at c.args.y.now e)) (sym c.in-None.is)
      (c.copy-in-None.ensures.value e o ∙ c.lowest_or-lowest.ensures.value e (c.copy-in-None.ensures.goes.closes e o));
  cause =
      let at = g.S.Steady.at in
      let run = g.S.Steady.run in
      let start = run c.args.calc.now in
      let lowest = c.lowest_or-lowest.ensures in
      let fs = (λ (e : Reading). boxes_at at c.args.floats.now e) in
      let y = (λ (e : Reading). at c.args.y.now e) in
      let more = (e : Reading) → IsTrue (start.is_open e) → AreHalf (fs e) (y e ∷ option_to_list (lent_at at c.args.least e)) in
      Blames-then start (run c.lowest_or-lowest.new.calc) (run c.copy-in-None.new.self) _ more lowest.goes c.copy-in-None.ensures.goes
      (record { mem = lowest.cause.mem; coeff = λ f. lowest.cause.coeff (λ e o. tt); opens = lowest.cause.opens })
      (λ f e o. (
        subst IsSmall (sym (lowest.value e o))
            (subst (λ l. IsSmall (float_top c.args.clear (fs e) (lent_at at l e) (y e))) c.in-None.is
            (top_small c.args.clear (fs e) (lent_at at c.args.least e) (y e) (f e (lowest.goes.closes e o)))),
        tt,
      ))
      c.copy-in-None.ensures.cause;
}
