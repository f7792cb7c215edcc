use Rattle.std.proofs.Common.{sym, subst, arith}
use Rattle.std.proofs.lemmas.Grind.{common_steps}
use Rattle.std.specs.List.{AllByRecursion}
use Rattle.viz_calc.specs.World.{Reading}
use Rattle.lay_float.specs.Readings.{boxes_at}
use Rattle.lay_line.proofs.Chains.{start, next}
use Rattle.page_limits.specs.Bounds.{IsFloatIn}
use Rattle.lay_flow.specs.Low.{reach, IsContextLow}
use Rattle.lay_flow.specs.Fits.{IsNear}
use Rattle.lay_flow.specs.Readings.{context_at}
use Rattle.lay_flow.proofs.Framed.{next-edge-near}
use Rattle.lay_flow.proofs.Sizes.{near-difference}
use Rattle.lay_steps.specs.Flow.{context_height}
use Rattle.lay_flow.proofs.heights.context_height.Goals as goal

pub returns : goal.returns
unfolding context_height
returns g c =
    let at = g.S.Steady.at in
    let top = c.args.top.now in
    let end = (λ (e : Reading). context_at at c.args.end.now e) in
    let best = c.lowest-best.ensures in
    let edge = c.next_edge-edge.ensures in
    let height = c.sub-height.ensures in
    let one = start {asks = λ (e : Reading). IsNear (at top e) × IsContextLow (end e)} best.goes best.cause (λ f e o.
    ((f e o).0, subst (λ fs. AllByRecursion (IsFloatIn reach) (boxes_at at fs e)) (sym c.as_slice.ensures) (f e o).1.floats)) in
    let two = next one edge.goes edge.cause (λ f e o. (f e o).1.standing) in
    let three = next two height.goes height.cause (λ f e o.
    near-difference (at c.next_edge-edge.result e) (at top e) (subst IsNear (sym (edge.value e o)) (next-edge-near (end e).standing (f e o).1.standing)) (f e o).0) in
    let chain = next three c.greater.ensures.goes c.greater.ensures.cause (λ f e o. tt) in
    record {
      goes = chain.goes;
      value = grind (arith, common_steps);
      cause = chain.cause;
    }
