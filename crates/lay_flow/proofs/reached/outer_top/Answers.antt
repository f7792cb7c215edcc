use Rattle.std.proofs.Common.{arith}
use Rattle.std.proofs.lemmas.Grind.{common_steps}
use Rattle.viz_calc.specs.World.{Reading}
use Rattle.lay_frame.specs.Readings.{frame_at}
use Rattle.lay_line.proofs.Chains.{start, next}
use Rattle.lay_flow.specs.Low.{IsFrameLow}
use Rattle.lay_flow.proofs.Sizes.{level-fits, level-near, aside-near, near-difference}
use Rattle.lay_flow.proofs.reached.outer_top.Goals as goal

pub returns : goal.returns
returns g c =
    let at = g.S.Steady.at in
    let shape = c.args.shape.now in
    let one = start {asks = λ (e : Reading). IsFrameLow (frame_at at shape e)} c.copy-top.ensures.goes c.copy-top.ensures.cause (λ f e o. level-fits (at shape.corner.y e) (f e o).top) in
    let two = next one c.sub-outer.ensures.goes c.sub-outer.ensures.cause (λ f e o.
    near-difference (at shape.corner.y e) (at shape.v.margin_top e) (level-near (at shape.corner.y e) (f e o).top) (aside-near (at shape.v.margin_top e) (f e o).v.margin_top)) in
    let chain = next two c.lesser.ensures.goes c.lesser.ensures.cause (λ f e o. tt) in
    record {
      goes = chain.goes;
      value = grind (arith, common_steps);
      cause = chain.cause;
    }
