use Rattle.std.proofs.Common.{◌≡◌, [], sym, ap, ◌∙◌}
use Rattle.lay_margin.specs.Runs.{run_at, IsRunOf}
use Rattle.viz_calc.proofs.Latched.{IsLent, grows, keeps, opened, told, caused}
use Rattle.lay_margin.proofs.runs.Run.empty.Goals as goal

pub returns : goal.returns
returns g c =
    let state = g.C.Calc.state in
    let at = g.C.Calc.at in
    let inner = c.empty-run.ensures in
    let last : c.calc-1.given.0 ≡ c.empty-run.new.calc.calc.now = c.calc-1.given.1 (sym (inner.goes.lender ∙ c.new-latch.ensures.lender)) ∙ c.finish.ensures.now in
    let lent : IsLent (state c.args.calc.now) (state c.calc-1.given.0) (state c.new-latch.result.calc.now) (state c.empty-run.new.calc.calc.now) c.new-latch.result.halt =
    record { at_start = ap state c.new-latch.ensures.now; running = c.new-latch.ensures.halt; at_end = ap state last } in
    record {
      grows = grows _ _ _ _ _ _ _ _ lent inner.goes;
      value = told (λ r e. IsRunOf (run_at at r e) []) c.finish.result _ _ _ _ _ _ _ lent c.finish.ensures.ok c.finish.ensures.running inner.value;
      cause = caused c.finish.result _ _ _ _ _ _ _ _ _ _ lent (λ f e o. f e (opened _ _ _ _ _ lent e o)) inner.cause c.finish.ensures.halt;
      kept = keeps _ _ _ _ _ _ _ _ lent inner.goes (g.met.C.Calc.keeps _);
    }
