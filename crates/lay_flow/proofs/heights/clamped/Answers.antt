use Rattle.std.proofs.Common.{sym, subst, ◌∙◌, arith}
use Rattle.std.proofs.lemmas.Grind.{common_steps}
use Rattle.viz_calc.specs.World.{Reading}
use Rattle.layout_semantics.specs.DefiniteHeights.{definite_height}
use Rattle.lay_width.specs.Fitting.{HeightFits, MostHeightFits}
use Rattle.lay_line.proofs.Chains.{Chain, start, next}
use Rattle.lay_flow.specs.Fits.{IsHeightFit}
use Rattle.lay_flow.proofs.Following.{idle}
use Rattle.lay_flow.proofs.Sizes.{zero-fits}
use Rattle.lay_flow.proofs.heights.clamped.Goals.{in-Some, in-None, in-Some-height_of, in-None-height_of}
use Rattle.lay_flow.proofs.heights.clamped.Goals as goal

pub returns : goal.returns
returns g c =
    let run = g.S.Steady.run in
    let tree = c.args.page.now.tree.now in
    let b = c.args.b in
    let asks = (λ (e : Reading). IsHeightFit tree e.world b) in
    let one : Chain (run c.args.calc.now) (run c.match-max_height.calc) asks = elim c.match-max_height.branch [
      | in-Some w ↦
          rw w.calc-is (start {asks = asks} w.height_of-most.ensures.goes w.height_of-most.ensures.cause (λ f e o.
          let a = f e o in
          (a.given.0, subst (MostHeightFits tree e.world (definite_height tree e.world b)) (sym c.max_height.ensures ∙ w.in-Some.is) a.limits.0)))
      | in-None w ↦ rw w.calc-is idle
    ] in
    let two = next one c.height_of.ensures.goes c.height_of.ensures.cause (λ f e o.
    let a = f e o in
    (a.given.0, subst (HeightFits tree e.world (definite_height tree e.world b)) (sym c.min_height.ensures) a.limits.1.0)) in
    let three : Chain (run c.args.calc.now) (run c.match-height_of.calc) asks = elim c.match-height_of.branch [
      | in-Some-height_of w ↦ rw w.calc-is two
      | in-None-height_of w ↦ rw w.calc-is (next two w.zero-least.ensures.goes w.zero-least.ensures.cause (λ f e o. zero-fits))
    ] in
    let chain = next three c.hold.ensures.goes c.hold.ensures.cause (λ f e o. tt) in
    record {
      goes = chain.goes;
      value = grind (arith, common_steps);
      cause = chain.cause;
    }
