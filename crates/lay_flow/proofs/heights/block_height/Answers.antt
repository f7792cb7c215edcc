use Rattle.std.proofs.Common.{◌+ℤ◌, IsTrue, sym, subst, arith}
use Rattle.std.proofs.lemmas.Grind.{common_steps}
use Rattle.viz_calc.specs.World.{Reading}
use Rattle.lay_line.proofs.Chains.{start, next}
use Rattle.lay_margin.specs.Runs.{run_at}
use Rattle.lay_flow.specs.Low.{IsStandingLow}
use Rattle.lay_flow.specs.Fits.{IsNear}
use Rattle.lay_flow.specs.Readings.{standing_at}
use Rattle.lay_flow.proofs.Framed.{edge-near}
use Rattle.lay_flow.proofs.Sizes.{near-fits, near-difference, value-fits}
use Rattle.lay_flow.proofs.heights.block_height.Goals as goal

pub returns-else-joins : goal.returns-else-joins
returns-else-joins g c =
    let at = g.S.Steady.at in
    let top = c.args.top.now in
    let edge = c.in-Below.edge in
    let own = (λ (e : Reading). run_at at c.in-Below.run' e) in
    let margin = c.value-margin.ensures in
    let sum = c.add-edge.ensures in
    let asks = (λ (e : Reading). IsNear (at top e) × IsStandingLow (standing_at at c.args.end.now e)) in
    let low = (λ (e : Reading) (a : asks e). subst (λ s. IsStandingLow (standing_at at s e)) c.in-Below.is a.1) in
    let below = (λ (e : Reading) (o : IsTrue ((g.S.Steady.run c.value-margin.new.calc).is_open e)) (a : asks e).
    let l = low e a in
    subst (λ m. IsNear (at edge e +ℤ m)) (sym (margin.exact e o)) (edge-near (at edge e) (own e) l.0 l.1)) in
    let one = start {asks = asks} margin.goes margin.cause (λ f e o. value-fits (own e) (low e (f e o)).1) in
    let two = next one sum.goes sum.cause (λ f e o. near-fits (at edge e +ℤ at c.value-margin.result e) (below e o (f e o))) in
    let chain = next two c.sub-else-joins.ensures.goes c.sub-else-joins.ensures.cause (λ f e o.
    near-difference (at c.add-edge.result e) (at top e) (subst IsNear (sym (sum.value e o)) (below e (sum.goes.closes e o) (f e o))) (f e o).0) in
    record {
      goes = chain.goes;
      value = grind (arith, common_steps);
      cause = chain.cause;
    }
