use Rattle.viz_calc.specs.World.{Reading}
use Rattle.lay_frame.specs.Readings.{frame_at}
use Rattle.lay_float.specs.Readings.{option_at}
use Rattle.lay_line.proofs.Chains.{start, next}
use Rattle.lay_flow.specs.Low.{AreLevelsLow, IsFrameLow}
use Rattle.lay_flow.proofs.reached.open.Goals as goal

pub returns-clause-cause : goal.returns-clause-cause
returns-clause-cause g c =
    let at = g.S.Steady.at in
    let top = c.outer_top-top.ensures in
    let one = start {asks = λ (e : Reading). AreLevelsLow (option_at at c.args.context.now.least e) × IsFrameLow (frame_at at c.args.shape.now e)} top.goes top.cause (λ f e o. (f e o).1) in
    (next one c.raised.ensures.goes c.raised.ensures.cause (λ f e o. (f e o).0)).cause
