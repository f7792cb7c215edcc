use Rattle.std.proofs.Common.{◌≡◌, subst, arith}
use Rattle.viz_calc.specs.State.{AreOpen}
use Rattle.lay_flow.proofs.front.render.Goals as goal

pub returns-clause-kept : goal.returns-clause-kept
returns-clause-kept g c =
    let same : (g.C.Calc.state c.calc-1.given.0).kept ≡ (g.C.Calc.state c.args.calc.now).kept = grind arith in
    subst (λ k. AreOpen k (g.C.Calc.state c.calc-1.given.0)) same (g.met.C.Calc.keeps c.calc-1.given.0)

pub returns-clause-cause : goal.returns-clause-cause
returns-clause-cause g c =
    let blames = c.render-rendering.ensures.cause in
    let halt = c.finish.ensures.halt in
    grind arith
