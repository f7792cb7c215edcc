use Rattle.std.proofs.Common.{◌^◌, arith}
use Rattle.std.proofs.lemmas.Grind.{common_steps}
use Rattle.viz_calc.specs.World.{Reading}
use Rattle.viz_calc.specs.Renderings.{quad_at}
use Rattle.lay_line.proofs.Chains.{start, next}
use Rattle.page_limits.specs.Bounds.{IsQuadIn}
use Rattle.lay_flow.specs.Fits.{near}
use Rattle.lay_flow.proofs.Sizes.{near-difference, quad-size}
use Rattle.lay_flow.proofs.independent.outer_extent.Goals as goal

pub returns : goal.returns
returns g c =
    let at = g.S.Steady.at in
    let q = c.args.placed.now.margin in
    let one = start {asks = λ (e : Reading). IsQuadIn near (quad_at at q e)} c.sub-width.ensures.goes c.sub-width.ensures.cause (λ f e o.
    let s = quad-size (2 ^ 95) (quad_at at q e) (f e o) in
    near-difference (at q.right e) (at q.left e) s.right s.left) in
    let chain = next one c.sub-height.ensures.goes c.sub-height.ensures.cause (λ f e o.
    let s = quad-size (2 ^ 95) (quad_at at q e) (f e o) in
    near-difference (at q.bottom e) (at q.top e) s.bottom s.top) in
    record {
      goes = chain.goes;
      value = grind (arith, common_steps);
      cause = chain.cause;
    }
