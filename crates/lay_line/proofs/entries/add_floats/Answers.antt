use Rattle.std.proofs.Common.{◌∷◌, [], ◌^◌, arith}
use Rattle.std.proofs.lemmas.Grind.{common_steps}
use Rattle.viz_calc.specs.World.{Reading}
use Rattle.viz_calc.specs.Renderings.{spot_at}
use Rattle.lay_line.specs.LineFits.{SpotOnLine, SpotsOnLine}
use Rattle.lay_line.specs.Readings.{spots_at}
use Rattle.lay_line.proofs.Chains.{ChainButMem, next_but_mem}
use Rattle.lay_line.proofs.Found.{all-from, all-here}
use Rattle.lay_line.proofs.OnLines.{all_small}
use Rattle.lay_line.proofs.entries.add_floats.Goals as goal

pub loop-spot-preserved : goal.loop-spot-preserved
loop-spot-preserved g c =
    let at = g.S.Steady.at in
    let run = g.S.Steady.run in
    let all = c.args.spots.now in
    let k = c.loop-spot.spot-index in
    let s = c.spot-item.result in
    let so_far : ChainButMem (run c.args.calc.now) (run c.loop-spot.calc) (λ (e : Reading). SpotsOnLine (spots_at at all e)) = record { goes = c.loop-spot.invariant.goes; cause = c.loop-spot.invariant.cause } in
    let then = next_but_mem so_far c.add_float.ensures.goes c.add_float.ensures.cause (λ f e o.
    all_small (2 ^ 99) (at s.1.x e ∷ at s.1.y e ∷ []) (omega arith)
    (all-here SpotOnLine (λ t. (t.0, spot_at at t.1 e)) all k s c.loop-spot-test.true c.spot-item.is (all-from SpotOnLine (λ t. (t.0, spot_at at t.1 e)) all k (f e o)))) in
    record {
      goes = then.goes;
      value = λ e o. grind (arith, common_steps);
      cause = then.cause;
    }
