use Rattle.std.proofs.Common.{sym, subst, arith}
use Rattle.std.proofs.lemmas.Grind.{common_steps}
use Rattle.viz_calc.specs.World.{Reading}
use Rattle.viz_calc.specs.Renderings.{band_at}
use Rattle.layout_semantics.specs.FlowBoxes.{inline_size}
use Rattle.lay_width.specs.Fitting.{VerticalsFit}
use Rattle.lay_line.proofs.Chains.{start, next}
use Rattle.lay_margin.specs.Runs.{run_at}
use Rattle.lay_flow.specs.Low.{IsBandLow, IsLevelLow, IsRunLow}
use Rattle.lay_flow.specs.Fits.{IsNear}
use Rattle.lay_flow.proofs.Sizes.{aside-near, level-near, near-difference, ends-fit, run-near, value-fits}
use Rattle.lay_steps.specs.Flow.{standing_after}
use Rattle.lay_flow.proofs.reached.standing_after.Goals as goal

pub returns-then-reached : goal.returns-then-reached
unfolding standing_after
returns-then-reached g c =
    let at = g.S.Steady.at in
    let tree = c.args.tree.now in
    let cb = c.args.cb.now in
    let met = c.args.met in
    let own = (λ (e : Reading). run_at at met.own e) in
    let asks = (λ (e : Reading). IsBandLow (band_at at cb e) × (VerticalsFit tree e.world c.args.b (inline_size (band_at at cb e)) × (IsLevelLow (at met.reached.top e) × IsRunLow (own e)))) in
    let ended = c.copy_run-ended.ensures in
    let joined = c.join_bottom.ensures in
    let margin = c.value-margin.ensures in
    let edge = c.sub-edge.ensures in
    let one = start {asks = asks} ended.goes ended.cause (λ f e o. ends-fit (own e) (f e o).1.1.1) in
    let two = next one joined.goes joined.cause (λ f e o.
    let a = f e o in
    (near-difference (at cb.right e) (at cb.left e) (aside-near (at cb.right e) a.0.right) (aside-near (at cb.left e) a.0.left), a.1.0.1.1.1.1.1)) in
    let three = next two margin.goes margin.cause (λ f e o. value-fits (own e) (f e o).1.1.1) in
    let chain = next three edge.goes edge.cause (λ f e o.
    let a = f e o in
    near-difference (at met.reached.top e) (at c.value-margin.result e) (level-near (at met.reached.top e) a.1.1.0) (subst IsNear (sym (margin.exact e o)) (run-near (own e) a.1.1.1))) in
    record {
      goes = chain.goes;
      value = grind (arith, common_steps);
      cause = chain.cause;
    }
