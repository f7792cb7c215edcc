use Rattle.std.proofs.Common.{arith}
use Rattle.std.proofs.lemmas.Grind.{common_steps}
use Rattle.viz_calc.specs.World.{Reading}
use Rattle.lay_line.proofs.Chains.{start, next}
use Rattle.lay_flow.specs.Low.{IsLevelLow}
use Rattle.lay_flow.proofs.Sizes.{level-fits}
use Rattle.lay_flow.proofs.reached.greater_of.Goals as goal

pub returns : goal.returns
returns g c =
    let at = g.S.Steady.at in
    let least = c.args.least.now in
    let one = start {asks = λ (e : Reading). IsLevelLow (at least e)} c.copy-least.ensures.goes c.copy-least.ensures.cause (λ f e o. level-fits (at least e) (f e o)) in
    let chain = next one c.greater.ensures.goes c.greater.ensures.cause (λ f e o. tt) in
    record {
      goes = chain.goes;
      value = grind (arith, common_steps);
      cause = chain.cause;
    }
