use Rattle.std.proofs.Common.{◌≡◌, sym, ap, ◌∙◌}
use Rattle.viz_calc.proofs.Latched.{IsLent, grows, keeps}
use Rattle.lay_margin.proofs.runs.Run.join.Goals as goal

pub returns-in_err-self-clause-grows : goal.returns-in_err-self-clause-grows
returns-in_err-self-clause-grows g c =
    let state = g.C.Calc.state in
    let goes = c.joined-run.ensures.goes in
    let last : c.calc-1.given.0 ≡ c.joined-run.new.calc.calc.now = c.calc-1.given.1 (sym (goes.lender ∙ c.new-latch.ensures.lender)) ∙ c.finish.ensures.now in
    let lent : IsLent (state c.args.calc.now) (state c.calc-1.given.0) (state c.new-latch.result.calc.now) (state c.joined-run.new.calc.calc.now) c.new-latch.result.halt =
    record { at_start = ap state c.new-latch.ensures.now; running = c.new-latch.ensures.halt; at_end = ap state last } in
    grows _ _ _ _ _ _ _ _ lent goes

pub returns-in_err-self-clause-kept : goal.returns-in_err-self-clause-kept
returns-in_err-self-clause-kept g c =
    let state = g.C.Calc.state in
    let goes = c.joined-run.ensures.goes in
    let last : c.calc-1.given.0 ≡ c.joined-run.new.calc.calc.now = c.calc-1.given.1 (sym (goes.lender ∙ c.new-latch.ensures.lender)) ∙ c.finish.ensures.now in
    let lent : IsLent (state c.args.calc.now) (state c.calc-1.given.0) (state c.new-latch.result.calc.now) (state c.joined-run.new.calc.calc.now) c.new-latch.result.halt =
    record { at_start = ap state c.new-latch.ensures.now; running = c.new-latch.ensures.halt; at_end = ap state last } in
    keeps _ _ _ _ _ _ _ _ lent goes (g.met.C.Calc.keeps _)

pub returns-clause-grows : goal.returns-clause-grows
returns-clause-grows g c =
    let state = g.C.Calc.state in
    let goes = c.joined-run.ensures.goes in
    let last : c.calc-1.given.0 ≡ c.joined-run.new.calc.calc.now = c.calc-1.given.1 (sym (goes.lender ∙ c.new-latch.ensures.lender)) ∙ c.finish.ensures.now in
    let lent : IsLent (state c.args.calc.now) (state c.calc-1.given.0) (state c.new-latch.result.calc.now) (state c.joined-run.new.calc.calc.now) c.new-latch.result.halt =
    record { at_start = ap state c.new-latch.ensures.now; running = c.new-latch.ensures.halt; at_end = ap state last } in
    grows _ _ _ _ _ _ _ _ lent goes

pub returns-clause-kept : goal.returns-clause-kept
returns-clause-kept g c =
    let state = g.C.Calc.state in
    let goes = c.joined-run.ensures.goes in
    let last : c.calc-1.given.0 ≡ c.joined-run.new.calc.calc.now = c.calc-1.given.1 (sym (goes.lender ∙ c.new-latch.ensures.lender)) ∙ c.finish.ensures.now in
    let lent : IsLent (state c.args.calc.now) (state c.calc-1.given.0) (state c.new-latch.result.calc.now) (state c.joined-run.new.calc.calc.now) c.new-latch.result.halt =
    record { at_start = ap state c.new-latch.ensures.now; running = c.new-latch.ensures.halt; at_end = ap state last } in
    keeps _ _ _ _ _ _ _ _ lent goes (g.met.C.Calc.keeps _)
