use Rattle.std.proofs.Common.{[], ◌∷◌, IsTrue, ap, sym, subst, ◌∙◌, arith}
use Rattle.std.proofs.lemmas.Grind.{common_steps}
use Rattle.std.specs.Prelude.{◌+ℤ◌}
use Rattle.viz_calc.specs.State.{AllSmall}
use Rattle.viz_calc.specs.World.{Reading}
use Rattle.viz_calc.specs.Renderings.{band_at}
use Rattle.layout_semantics.specs.Leads.{none_passed}
use Rattle.layout_semantics.specs.Clearance.{hangs}
use Rattle.lay_line.proofs.Chains.{but_mem, start_but_mem, next_but_mem}
use Rattle.lay_margin.specs.Runs.{run_at}
use Rattle.lay_steps.specs.Forward.{Found, cleared_of}
use Rattle.lay_flow.specs.Low.{IsRunLow}
use Rattle.lay_flow.specs.Readings.{apart_at, context_at, standing_at, cleared_at, found_at}
use Rattle.lay_flow.specs.WayFits.{ForwardFits, FromFits, StandingFits, ReachFits}
use Rattle.lay_steps.specs.Flow.{forward_of}
use Rattle.lay_flow.proofs.LeadsLow.{level-small, edge-small}
use Rattle.lay_steps.proofs.Reaches.{below-found}
use Rattle.lay_flow.proofs.Sizes.{ends-fit, value-fits, zero-fits}
use Rattle.lay_steps.specs.Flow.{reached_of}
use Rattle.lay_flow.proofs.reached.reach.Goals as goal

pub returns-in-Below : goal.returns-in-Below
unfolding reached_of
returns-in-Below g c =
    let at = g.S.Steady.at in
    let page = c.args.page.now in
    let tree = page.tree.now in
    let b = c.args.b in
    let apart = (λ (e : Reading). apart_at at page.apart.now e) in
    let cb = (λ (e : Reading). band_at at c.args.cb.now e) in
    let ctx = (λ (e : Reading). context_at at c.args.context.now e) in
    let edge = (λ (e : Reading). at c.in-Below.edge e) in
    let run = (λ (e : Reading). run_at at c.in-Below.run' e) in
    let asks = (λ (e : Reading). ReachFits tree e.world (apart e) (cb e) (ctx e) b) in
    let here = (λ (e : Reading) (f : asks e). subst (StandingFits tree e.world (apart e) (cb e) (ctx e) b) (ap (λ x. standing_at at x e) c.in-Below.is) f) in
    let own = c.copy_run-run.ensures in
    let from = c.copy-from.ensures in
    let gone = c.go-gone.ensures in
    let margin = c.value-margin.ensures in
    let y = c.add-y.ensures in
    -- what was found, where the numbers with which it began were copied
    let same = (λ (e : Reading) (o : IsTrue ((g.S.Steady.run c.go-gone.new.calc).is_open e)).
    gone.value e o
    ∙ ap (λ x. forward_of tree e.world (apart e) (hangs x) none_passed (cb e) (ctx e) b (run_at at c.copy_run-run.result e)) (from.value e (gone.goes.closes e o))
    ∙ ap (λ r. forward_of tree e.world (apart e) (hangs (edge e)) none_passed (cb e) (ctx e) b r) (own.value e (from.goes.closes e (gone.goes.closes e o)))) in
    let low = (λ (e : Reading) (o : IsTrue ((g.S.Steady.run c.go-gone.new.calc).is_open e)) (f : asks e).
    subst (λ (x : Found). IsRunLow x.run) (sym (same e o)) (here e f).3) in
    let one = start_but_mem {asks = asks} own.goes (but_mem own.cause) (λ f e o. ends-fit (run e) (here e (f e o)).1) in
    let two = next_but_mem one from.goes (but_mem from.cause) (λ f e o. (level-small (edge e) (here e (f e o)).0, tt)) in
    let three = next_but_mem two gone.goes gone.cause (λ f e o.
    subst (λ x. ForwardFits tree e.world (apart e) (cb e) (ctx e) b (hangs x) none_passed (run_at at c.copy_run-run.result e)) (sym (from.value e o))
    (subst (λ r. ForwardFits tree e.world (apart e) (cb e) (ctx e) b (hangs (edge e)) none_passed r) (sym (own.value e (from.goes.closes e o))) (here e (f e o)).2)) in
    let four = next_but_mem three margin.goes (but_mem margin.cause) (λ f e o. value-fits (run_at at c.go-gone.result.going.run e) (low e o (f e o))) in
    let five = next_but_mem four y.goes (but_mem y.cause) (λ f e o.
    let o3 = margin.goes.closes e o in
    subst (λ m. AllSmall ((edge e +ℤ m) ∷ [])) (sym (margin.exact e o)) (edge-small (edge e) (run_at at c.go-gone.result.going.run e) (here e (f e o)).0 (low e o3 (f e o)))) in
    let chain = next_but_mem five c.reached_from-in-Below.ensures.goes c.reached_from-in-Below.ensures.cause (λ f e o.
    let o3 = margin.goes.closes e (y.goes.closes e o) in
    subst (FromFits tree e.world (apart e) (cb e) (ctx e) b) (sym (c.cleared_of-cleared.ensures at e ∙ ap (λ (x : Found). cleared_of x.end) (same e o3))) (here e (f e o)).4) in
    record {
      goes = chain.goes;
      value = λ e o.
          let o1 = c.reached_from-in-Below.ensures.goes.closes e o in
          let o2 = c.add-y.ensures.goes.closes e o1 in
          let o3 = c.value-margin.ensures.goes.closes e o2 in
          let o4 = c.go-gone.ensures.goes.closes e o3 in
          c.reached_from-in-Below.ensures.value e o
          ∙ below-found page.tree.now e.world (apart_at at page.apart.now e) (band_at at c.args.cb.now e) (context_at at c.args.context.now e) c.args.b
          (at c.in-Below.edge e) (at c.copy-from.result e) (run_at at c.in-Below.run' e) (run_at at c.copy_run-run.result e) c.in-Below.stuck
          (found_at at c.go-gone.result.going c.go-gone.result.end e) (at c.add-y.result e) (at c.value-margin.result e) (cleared_at at c.cleared_of-cleared.result e)
          (ap (λ x. standing_at at x e) c.in-Below.is) (c.copy-from.ensures.value e o4) (c.copy_run-run.ensures.value e (c.copy-from.ensures.goes.closes e o4))
          (c.go-gone.ensures.value e o3) (c.add-y.ensures.value e o1) (c.value-margin.ensures.exact e o2) (c.cleared_of-cleared.ensures at e);
      cause = chain.cause;
    }

pub returns-in-AtTop : goal.returns-in-AtTop
unfolding reached_of
returns-in-AtTop g c =
    let at = g.S.Steady.at in
    let page = c.args.page.now in
    let tree = page.tree.now in
    let apart = (λ (e : Reading). apart_at at page.apart.now e) in
    let cb = (λ (e : Reading). band_at at c.args.cb.now e) in
    let ctx = (λ (e : Reading). context_at at c.args.context.now e) in
    let asks = (λ (e : Reading). ReachFits tree e.world (apart e) (cb e) (ctx e) c.args.b) in
    let here = (λ (e : Reading) (f : asks e). subst (StandingFits tree e.world (apart e) (cb e) (ctx e) c.args.b) (ap (λ x. standing_at at x e) c.in-AtTop.is) f) in
    let one = start_but_mem {asks = asks} c.copy-y.ensures.goes (but_mem c.copy-y.ensures.cause) (λ f e o. (level-small (at c.in-AtTop.y e) (here e (f e o)).0, tt)) in
    let two = next_but_mem one c.copy_cleared-cleared.ensures.goes (but_mem c.copy_cleared-cleared.ensures.cause) (λ f e o. (here e (f e o)).1.0) in
    let three = next_but_mem two c.empty-run.ensures.goes (but_mem c.empty-run.ensures.cause) (λ f e o. zero-fits) in
    let chain = next_but_mem three c.reached_from.ensures.goes c.reached_from.ensures.cause (λ f e o.
    subst (FromFits tree e.world (apart e) (cb e) (ctx e) c.args.b) (sym (c.copy_cleared-cleared.ensures.value e (c.empty-run.ensures.goes.closes e o))) (here e (f e o)).1) in
    record {
      goes = chain.goes;
      value = grind (arith, common_steps);
      cause = chain.cause;
    }
