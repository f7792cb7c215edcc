use Rattle.std.proofs.Common.{List, ap, sym, subst, ◌∙◌}
use Rattle.viz_calc.specs.World.{Reading}
use Rattle.viz_calc.specs.Renderings.{band_at}
use Rattle.layout_semantics.specs.Floats.{FloatBox}
use Rattle.layout_semantics.specs.Clearance.{on_ground, Ground}
use Rattle.lay_float.specs.Readings.{boxes_at, option_at}
use Rattle.lay_line.proofs.Chains.{start_but_mem}
use Rattle.lay_margin.specs.Readings.{floats_at, passed_by}
use Rattle.lay_margin.specs.Runs.{run_at}
use Rattle.lay_steps.specs.Flow.{size_in}
use Rattle.lay_steps.specs.Forward.{way}
use Rattle.lay_flow.specs.Readings.{apart_at, base_at, context_at}
use Rattle.lay_flow.specs.WayFits.{WayFits, ForwardFits}
use Rattle.lay_flow.specs.Ways.{way_at}
use Rattle.lay_flow.proofs.reached.go.Goals as goal

pub returns : goal.returns
unfolding way_at
returns g c =
    let at = g.S.Steady.at in
    let page = c.args.page.now in
    let tree = page.tree.now in
    let b = c.args.b in
    let base = (λ (e : Reading). base_at at c.args.base.now e) in
    let on : Reading → List FloatBox → Ground = λ e floats. on_ground tree e.world (size_in (apart_at at page.apart.now e)) (base e) floats (option_at at c.args.context.now.least e) in
    let cb = (λ (e : Reading). band_at at c.args.cb.now e) in
    let run = (λ (e : Reading). run_at at c.args.run e) in
    let passed = passed_by c.args.past in
    let asks = (λ (e : Reading). ForwardFits tree e.world (apart_at at page.apart.now e) (cb e) (context_at at c.args.context.now e) b (base e) passed (run e)) in
    let chain = start_but_mem {asks = asks} c.forward-end.ensures.goes c.forward-end.ensures.cause (λ f e o.
    subst (λ fs. WayFits (on e (boxes_at at fs e)) (way (on e (boxes_at at fs e)) passed) (cb e) b (run e) (floats_at at c.new.result e)) (sym c.as_slice.ensures)
    (subst (λ ws. WayFits (on e (boxes_at at c.args.context.now.floats.placed e)) (way (on e (boxes_at at c.args.context.now.floats.placed e)) passed) (cb e) b (run e) (floats_at at ws e)) (sym c.new.ensures) (f e o))) in
    record {
      goes = chain.goes;
      value = λ e o.
          let context = c.args.context.now in
          let cb = band_at at c.args.cb.now e in
          let run = run_at at c.args.run e in
          let on : List FloatBox → Ground = λ floats. on_ground page.tree.now e.world (size_in (apart_at at page.apart.now e)) (base_at at c.args.base.now e) floats (option_at at context.least e) in
          c.forward-end.ensures.value e o
          ∙ ap (λ fs. way (on (boxes_at at fs e)) passed cb c.args.b run (floats_at at c.new.result e)) c.as_slice.ensures
          ∙ ap (λ ws. way (on (boxes_at at context.floats.placed e)) passed cb c.args.b run (floats_at at ws e)) c.new.ensures;
      cause = chain.cause;
    }
