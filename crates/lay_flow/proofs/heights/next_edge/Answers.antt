use Rattle.std.proofs.Common.{◌+ℤ◌, sym, subst, arith}
use Rattle.std.proofs.lemmas.Grind.{common_steps}
use Rattle.viz_calc.specs.World.{Reading}
use Rattle.lay_line.proofs.Chains.{start, next}
use Rattle.lay_margin.specs.Runs.{run_at}
use Rattle.lay_flow.specs.Low.{IsStandingLow}
use Rattle.lay_flow.specs.Fits.{IsNear}
use Rattle.lay_flow.specs.Readings.{standing_at}
use Rattle.lay_flow.proofs.Framed.{edge-near}
use Rattle.lay_flow.proofs.Sizes.{near-fits, value-fits}
use Rattle.lay_flow.proofs.heights.next_edge.Goals as goal

pub returns-in-Below : goal.returns-in-Below
returns-in-Below g c =
    let at = g.S.Steady.at in
    let edge = c.in-Below.edge in
    let own = (λ (e : Reading). run_at at c.in-Below.run' e) in
    let margin = c.value-margin.ensures in
    let asks = (λ (e : Reading). IsStandingLow (standing_at at c.args.standing.now e)) in
    let low = (λ (e : Reading) (a : asks e). subst (λ s. IsStandingLow (standing_at at s e)) c.in-Below.is a) in
    let one = start {asks = asks} margin.goes margin.cause (λ f e o. value-fits (own e) (low e (f e o)).1) in
    let chain = next one c.add.ensures.goes c.add.ensures.cause (λ f e o.
    let l = low e (f e o) in
    near-fits (at edge e +ℤ at c.value-margin.result e) (subst (λ m. IsNear (at edge e +ℤ m)) (sym (margin.exact e o)) (edge-near (at edge e) (own e) l.0 l.1))) in
    record {
      goes = chain.goes;
      value = grind (arith, common_steps);
      cause = chain.cause;
    }
