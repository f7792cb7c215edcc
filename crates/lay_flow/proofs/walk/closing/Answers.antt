use Rattle.std.proofs.Common.{arith}
use Rattle.std.proofs.lemmas.Grind.{common_steps}
use Rattle.viz_calc.specs.World.{Reading}
use Rattle.lay_frame.specs.Readings.{frame_at}
use Rattle.lay_line.proofs.Chains.{start}
use Rattle.lay_flow.specs.Low.{IsFrameLow}
use Rattle.lay_flow.proofs.Sizes.{aside-fits}
use Rattle.lay_flow.proofs.walk.closing.Goals as goal

pub returns : goal.returns
returns g c =
    let at = g.S.Steady.at in
    let shape = c.args.shape.now in
    let chain = start {asks = λ (e : Reading). IsFrameLow (frame_at at shape e)} c.join.ensures.goes c.join.ensures.cause (λ f e o. aside-fits (at shape.v.margin_bottom e) (f e o).v.margin_bottom) in
    record {
      goes = chain.goes;
      value = grind (arith, common_steps);
      cause = chain.cause;
    }
