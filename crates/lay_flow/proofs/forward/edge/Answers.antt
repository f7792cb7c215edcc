use Rattle.std.proofs.Common.{ap, sym, subst, ◌∷◌, [], arith}
use Rattle.std.proofs.lemmas.Grind.{common_steps}
use Rattle.std.specs.Prelude.{◌+ℤ◌}
use Rattle.viz_calc.specs.World.{Reading}
use Rattle.viz_calc.specs.State.{AllSmall}
use Rattle.lay_line.proofs.Chains.{start, next}
use Rattle.lay_margin.specs.Runs.{run_at}
use Rattle.lay_flow.specs.Low.{IsBaseLow, IsRunLow}
use Rattle.lay_flow.specs.Readings.{base_at}
use Rattle.lay_flow.proofs.LeadsLow.{level-small, edge-small}
use Rattle.lay_flow.proofs.Sizes.{value-fits}
use Rattle.lay_flow.proofs.forward.edge.Goals as goal

pub returns-in-Hangs : goal.returns-in-Hangs
returns-in-Hangs g c =
    let at = g.S.Steady.at in
    let run = (λ (e : Reading). run_at at c.args.run.now e) in
    let margin = c.value-margin.ensures in
    let asks = (λ (e : Reading). IsBaseLow (base_at at c.args.base.now e) × IsRunLow (run e)) in
    let one = start {asks = asks} margin.goes margin.cause (λ f e o. value-fits (run e) (f e o).1) in
    let chain = next one c.add.ensures.goes c.add.ensures.cause (λ f e o.
    subst (λ m. AllSmall ((at c.in-Hangs.edge e +ℤ m) ∷ [])) (sym (margin.exact e o))
    (edge-small (at c.in-Hangs.edge e) (run e) (subst IsBaseLow (ap (λ b. base_at at b e) c.in-Hangs.is) (f e o).0) (f e o).1)) in
    record {
      goes = chain.goes;
      value = grind (arith, common_steps);
      cause = chain.cause;
    }

pub returns-in-Stands : goal.returns-in-Stands
returns-in-Stands g c =
    let at = g.S.Steady.at in
    let asks = (λ (e : Reading). IsBaseLow (base_at at c.args.base.now e) × IsRunLow (run_at at c.args.run.now e)) in
    let chain = start {asks = asks} c.copy.ensures.goes c.copy.ensures.cause (λ f e o.
    (level-small (at c.in-Stands.edge e) (subst IsBaseLow (ap (λ b. base_at at b e) c.in-Stands.is) (f e o).0), tt)) in
    record {
      goes = chain.goes;
      value = grind (arith, common_steps);
      cause = chain.cause;
    }
