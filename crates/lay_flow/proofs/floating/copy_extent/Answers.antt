use Rattle.std.proofs.Common.{arith}
use Rattle.std.proofs.lemmas.Grind.{common_steps}
use Rattle.viz_calc.specs.World.{Reading}
use Rattle.lay_float.specs.Readings.{extent_at}
use Rattle.lay_line.proofs.Chains.{start, next}
use Rattle.page_limits.specs.Bounds.{IsExtentIn}
use Rattle.lay_flow.specs.Low.{reach}
use Rattle.lay_flow.proofs.Sizes.{aside-fits, level-fits}
use Rattle.lay_flow.proofs.floating.copy_extent.Goals as goal

pub returns : goal.returns
returns g c =
    let at = g.S.Steady.at in
    let size = c.args.size.now in
    let width = c.copy-width.ensures in
    let height = c.copy-height.ensures in
    let one = start {asks = λ (e : Reading). IsExtentIn reach (extent_at at size e)} width.goes width.cause (λ f e o. aside-fits (at size.width e) (f e o).width) in
    let chain = next one height.goes height.cause (λ f e o. level-fits (at size.height e) (f e o).height) in
    record {
      goes = chain.goes;
      value = grind (arith, common_steps);
      cause = chain.cause;
    }
