use Rattle.std.proofs.Common.{Some, ap, sym, subst, ◌∙◌}
use Rattle.viz_calc.specs.World.{Reading}
use Rattle.viz_calc.specs.Renderings.{band_at}
use Rattle.lay_line.proofs.Chains.{but_mem, start_but_mem, next_but_mem}
use Rattle.lay_margin.specs.Readings.{passed_by}
use Rattle.lay_margin.specs.Runs.{run_at}
use Rattle.layout_semantics.specs.Clearance.{stands}
use Rattle.lay_flow.specs.Low.{IsClearedLow}
use Rattle.lay_flow.specs.Readings.{apart_at, context_at, cleared_at, found_at}
use Rattle.lay_flow.specs.WayFits.{ForwardFits, FromFits}
use Rattle.lay_flow.proofs.LeadsLow.{level-small}
use Rattle.lay_steps.proofs.Reaches.{itself-found}
use Rattle.lay_flow.proofs.Sizes.{zero-fits}
use Rattle.lay_steps.specs.Flow.{reached_from}
use Rattle.lay_flow.proofs.reached.reached_from.Goals as goal

pub returns-then-cleared-b : goal.returns-then-cleared-b
unfolding reached_from
returns-then-cleared-b g c =
    let at = g.S.Steady.at in
    let page = c.args.page.now in
    let tree = page.tree.now in
    let b = c.args.b in
    let apart = (λ (e : Reading). apart_at at page.apart.now e) in
    let cb = (λ (e : Reading). band_at at c.args.cb.now e) in
    let ctx = (λ (e : Reading). context_at at c.args.context.now e) in
    let edge = (λ (e : Reading). at c.in-Some.cleared.edge e) in
    let some = (λ (e : Reading). ap (λ x. cleared_at at x e) c.in-Some.is) in
    let asks = (λ (e : Reading). FromFits tree e.world (apart e) (cb e) (ctx e) b (cleared_at at c.args.cleared e)) in
    let one = start_but_mem {asks = asks} c.copy-top.ensures.goes (but_mem c.copy-top.ensures.cause)
    (λ f e o. (level-small (edge e) (subst IsClearedLow (some e) (f e o).0), tt)) in
    let two = next_but_mem one c.empty-run.ensures.goes (but_mem c.empty-run.ensures.cause) (λ f e o. zero-fits) in
    let chain = next_but_mem two c.go-gone.ensures.goes c.go-gone.ensures.cause (λ f e o.
    subst (λ r. ForwardFits tree e.world (apart e) (cb e) (ctx e) b (stands (edge e)) (passed_by (Some b)) r) (sym (c.empty-run.ensures.exact e o))
    ((f e o).1 (edge e) (some e ∙ ap (λ n. Some (n, edge e)) c.if-cleared-b.true))) in
    record {
      goes = chain.goes;
      value = λ e o.
          let o1 = c.go-gone.ensures.goes.closes e o in
          itself-found page.tree.now e.world (apart_at at page.apart.now e) (band_at at c.args.cb.now e) (context_at at c.args.context.now e) c.args.b
          (at c.args.y e) (cleared_at at c.args.cleared e) (c.in-Some.cleared.at, at c.in-Some.cleared.edge e) (run_at at c.args.own e) (run_at at c.empty-run.result e)
          (found_at at c.go-gone.result.going c.go-gone.result.end e) (at c.copy-top.result e) (cleared_at at c.cleared_of.result e)
          (ap (λ x. cleared_at at x e) c.in-Some.is) c.if-cleared-b.true (c.copy-top.ensures.value e (c.empty-run.ensures.goes.closes e o1)) (c.empty-run.ensures.exact e o1)
          (c.go-gone.ensures.value e o) (c.cleared_of.ensures at e);
      cause = chain.cause;
    }
