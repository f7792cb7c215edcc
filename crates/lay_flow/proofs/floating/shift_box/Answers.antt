use Rattle.std.proofs.Common.{arith}
use Rattle.std.proofs.lemmas.Grind.{common_steps}
use Rattle.viz_calc.specs.World.{Reading}
use Rattle.viz_calc.specs.Renderings.{placed_at, spot_at}
use Rattle.lay_line.proofs.Chains.{start, next}
use Rattle.page_limits.specs.Bounds.{IsPlacedIn}
use Rattle.lay_flow.specs.Low.{reach}
use Rattle.lay_flow.specs.Fits.{IsSpotNear}
use Rattle.lay_flow.proofs.floating.shift_box.Goals as goal

pub returns : goal.returns
returns g c =
    let at = g.S.Steady.at in
    let asks = (λ (e : Reading). IsSpotNear (spot_at at c.args.by.now e) × IsPlacedIn reach (placed_at at c.args.placed.now e)) in
    let one = start {asks = asks} c.shift_quad-margin.ensures.goes c.shift_quad-margin.ensures.cause (λ f e o. ((f e o).0, (f e o).1.margin)) in
    let two = next one c.shift_quad-border.ensures.goes c.shift_quad-border.ensures.cause (λ f e o. ((f e o).0, (f e o).1.border)) in
    let three = next two c.shift_quad-padding.ensures.goes c.shift_quad-padding.ensures.cause (λ f e o. ((f e o).0, (f e o).1.padding)) in
    let chain = next three c.shift_quad-content.ensures.goes c.shift_quad-content.ensures.cause (λ f e o. ((f e o).0, (f e o).1.content)) in
    record {
      goes = chain.goes;
      value = grind (arith, common_steps);
      cause = chain.cause;
    }
