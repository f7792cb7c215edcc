use Rattle.std.proofs.Common.{◌≡◌, sym, subst, arith}
use Rattle.std.proofs.Common.{IsTrue}
use Rattle.std.specs.Prelude.{IfErr}
use Rattle.viz_calc.specs.State.{Grows, AreOpen, CauseButMem}
use Rattle.viz_calc.specs.World.{Reading}
use Rattle.lay_float.specs.Readings.{floats_at}
use Rattle.lay_line.specs.Contexts.{context_at}
use Rattle.lay_line.specs.LinesFit.{LinesFit}
use Rattle.lay_line.proofs.Chains.{told}
use Rattle.lay_line.proofs.front.laid.Goals as goal

pub returns-clause-grows : goal.returns-clause-grows
returns-clause-grows g c =
    let state = g.C.Calc.state in
    let goes = c.lines-laid.ensures.goes in
    let same : c.calc-1.given.0 ≡ c.lines-laid.new.calc.calc.now = grind arith in
    subst (λ s. Grows (state c.args.calc.now) (state s)) (sym same)
    (subst (λ s. Grows (state s) (state c.lines-laid.new.calc.calc.now)) c.new-latch.ensures.now
    (record { closes = goes.reached; lean = goes.lean; coeffs = goes.coeffs; opens = goes.opens; kept = goes.kept }))

pub returns-clause-kept : goal.returns-clause-kept
returns-clause-kept g c =
    let same : (g.C.Calc.state c.calc-1.given.0).kept ≡ (g.C.Calc.state c.args.calc.now).kept = grind arith in
    subst (λ k. AreOpen k (g.C.Calc.state c.calc-1.given.0)) same (g.met.C.Calc.keeps c.calc-1.given.0)

pub returns-clause-cause : goal.returns-clause-cause
returns-clause-cause g c =
    let at = g.C.Calc.at in
    let state = g.C.Calc.state in
    let new = c.lines-laid.new.calc in
    let asks = (λ (e : Reading). LinesFit (context_at at c.args.container.now e) (at c.args.y.now e) (at c.args.least.now e) (floats_at at c.args.floats e)) in
    let same : c.calc-1.given.0 ≡ c.lines-laid.new.calc.calc.now = grind arith in
    let by = told (state c.new-latch.result.calc.now) (state new.calc.now) c.new-latch.result.halt new.halt _ _ asks c.finish.result c.new-latch.ensures.halt c.lines-laid.ensures.cause c.finish.ensures.halt in
    subst (λ s. IfErr c.finish.result (CauseButMem (state c.args.calc.now) (state s) ((e : Reading) → IsTrue ((state c.args.calc.now).is_open e) → asks e))) (sym same)
    (subst (λ s. IfErr c.finish.result (CauseButMem (state s) (state new.calc.now) ((e : Reading) → IsTrue ((state s).is_open e) → asks e))) c.new-latch.ensures.now by)
