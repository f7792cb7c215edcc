use Rattle.std.proofs.Common.{sym, subst, arith}
use Rattle.std.proofs.lemmas.Grind.{common_steps}
use Rattle.viz_calc.specs.World.{Reading}
use Rattle.lay_frame.specs.Readings.{frame_at}
use Rattle.lay_line.proofs.Chains.{start, next}
use Rattle.lay_flow.specs.Low.{IsFrameLow}
use Rattle.lay_flow.specs.Fits.{IsNear}
use Rattle.lay_flow.proofs.Framed.{top-fits, top-near}
use Rattle.lay_steps.specs.Flow.{standing_in}
use Rattle.lay_flow.proofs.reached.standing_in.Goals as goal

pub returns-else-is_open_above : goal.returns-else-is_open_above
unfolding standing_in
returns-else-is_open_above g c =
    let at = g.S.Steady.at in
    let frame = (λ (e : Reading). frame_at at c.args.shape.now e) in
    let top = c.content_top-top.ensures in
    let one = start {asks = λ (e : Reading). IsFrameLow (frame e)} top.goes top.cause (λ f e o. top-fits (frame e) (f e o)) in
    let chain = next one c.below.ensures.goes c.below.ensures.cause (λ f e o. subst IsNear (sym (top.value e o)) (top-near (frame e) (f e o))) in
    record {
      goes = chain.goes;
      value = grind (arith, common_steps);
      cause = chain.cause;
    }
