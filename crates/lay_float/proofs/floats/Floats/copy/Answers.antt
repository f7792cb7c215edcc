use Rattle.std.proofs.Common.{◌≡◌, [], sym, subst, ap, ◌∙◌}
use Rattle.lay_float.specs.Agreement.{Agree}
use Rattle.lay_float.specs.Limits.{AreHalf}
use Rattle.lay_float.specs.Readings.{boxes_at, floats_at}
use Rattle.viz_calc.proofs.Latched.{IsLent, grows, keeps, opened, told, holds, caused_but_mem}
use Rattle.lay_float.proofs.Agreeing.{unknown}
use Rattle.lay_float.proofs.floats.Floats.copy.Goals as goal

pub returns : goal.returns
returns g c =
    let state = g.C.Calc.state in
    let at = g.C.Calc.at in
    let inner = c.copy-copied.ensures in
    let last : c.calc-1.given.0 ≡ c.copy-copied.new.calc.calc.now = c.calc-1.given.1 (sym (inner.goes.lender ∙ c.new-latch.ensures.lender)) ∙ c.finish.ensures.now in
    let lent : IsLent (state c.args.calc.now) (state c.calc-1.given.0) (state c.new-latch.result.calc.now) (state c.copy-copied.new.calc.calc.now) c.new-latch.result.halt =
    record { at_start = ap state c.new-latch.ensures.now; running = c.new-latch.ensures.halt; at_end = ap state last } in
    record {
      grows = grows _ _ _ _ _ _ _ _ lent inner.goes;
      value = told (λ r e. floats_at at r e ≡ floats_at at c.args.self.now e) c.finish.result _ _ _ _ _ _ _ lent c.finish.ensures.ok c.finish.ensures.running
          (λ e o. inner.value e o ∙ ap (λ l. boxes_at at l e) c.as_slice.ensures);
      cause = caused_but_mem c.finish.result _ _ _ _ _ _ _ _ _ _ lent (λ f e o. subst (λ l. AreHalf (boxes_at at l e) []) (sym c.as_slice.ensures) (f e (opened _ _ _ _ _ lent e o)))
          inner.cause c.finish.ensures.halt;
      kept = keeps _ _ _ _ _ _ _ _ lent inner.goes (g.met.C.Calc.keeps _);
      agrees = holds (λ r. Agree at (state c.calc-1.given.0).is_open r) c.finish.result _ c.finish.ensures.ok (unknown at (state c.calc-1.given.0).is_open c.copy-copied.result inner.ended);
    }
