use Rattle.std.proofs.Common.{arith}
use Rattle.std.proofs.lemmas.Grind.{common_steps}
use Rattle.viz_calc.specs.World.{Reading}
use Rattle.viz_calc.specs.Renderings.{quad_at, spot_at}
use Rattle.lay_line.proofs.Chains.{start, next}
use Rattle.page_limits.specs.Bounds.{IsQuadIn}
use Rattle.lay_flow.specs.Low.{reach}
use Rattle.lay_flow.specs.Fits.{IsSpotNear}
use Rattle.lay_flow.proofs.Spots.{quad-moved}
use Rattle.lay_flow.proofs.floating.shift_quad.Goals as goal

pub returns : goal.returns
returns g c =
    let at = g.S.Steady.at in
    let by = (λ (e : Reading). spot_at at c.args.by.now e) in
    let quad = (λ (e : Reading). quad_at at c.args.quad.now e) in
    let asks = (λ (e : Reading). IsSpotNear (by e) × IsQuadIn reach (quad e)) in
    let moved = (λ (e : Reading) (a : asks e). quad-moved (by e) (quad e) a.0 a.1) in
    let one = start {asks = asks} c.add-left.ensures.goes c.add-left.ensures.cause (λ f e o. ((moved e (f e o)).0, tt)) in
    let two = next one c.add-top.ensures.goes c.add-top.ensures.cause (λ f e o. ((moved e (f e o)).1.0, tt)) in
    let three = next two c.add-right.ensures.goes c.add-right.ensures.cause (λ f e o. ((moved e (f e o)).1.1.0, tt)) in
    let chain = next three c.add-bottom.ensures.goes c.add-bottom.ensures.cause (λ f e o. (moved e (f e o)).1.1.1) in
    record {
      goes = chain.goes;
      value = grind (arith, common_steps);
      cause = chain.cause;
    }
