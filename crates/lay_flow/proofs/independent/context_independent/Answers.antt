use Rattle.std.proofs.Common.{IsTrue, ◌^◌, ℤ, pos, ap, sym, subst, ◌∙◌}
use Rattle.viz_base.specs.declared.renderings.Placed.{Placed}
use Rattle.viz_calc.specs.World.{Reading}
use Rattle.viz_calc.specs.Renderings.{band_at}
use Rattle.layout_semantics.specs.FlowBoxes.{content_from}
use Rattle.layout_semantics.specs.Rectangles.{content_top}
use Rattle.page_limits.specs.Bounds.{IsQuadIn}
use Rattle.lay_steps.specs.Flow.{fresh}
use Rattle.lay_frame.specs.Readings.{frame_at}
use Rattle.lay_flow.specs.IndependentFits.{RootFits}
use Rattle.lay_flow.specs.Fits.{IsNear, near}
use Rattle.lay_flow.specs.Low.{IsAsideLow, IsContextLow}
use Rattle.lay_flow.specs.Readings.{apart_at, context_at}
use Rattle.lay_steps.specs.Flow.{root_of}
use Rattle.lay_flow.proofs.Around.{band-fits, kept-fits}
use Rattle.lay_flow.proofs.Framed.{top-fits, top-near}
use Rattle.lay_flow.proofs.Givens.{first_at, more, more_at}
use Rattle.lay_flow.proofs.Sizes.{zero-fits, zero-small}
use Rattle.lay_flow.proofs.Walks.{content-moved, end-moved}
use Rattle.lay_flow.proofs.independent.context_independent.Goals as goal

pub returns-clause-cause : goal.returns-clause-cause
returns-clause-cause g c =
    let at = g.S.Steady.at in
    let page = c.args.page.now in
    let tree = page.tree.now in
    let b = c.args.b in
    let f = (λ (e : Reading). frame_at at c.args.shape.now e) in
    let apart = (λ (e : Reading). apart_at at page.apart.now e) in
    let asks = (λ (e : Reading). RootFits tree e.world (apart e) b (f e)) in
    let left = c.zero-left.ensures in
    let band = c.content_between-band.ensures in
    let top = c.content_top-top.ensures in
    let own = c.fresh-context.ensures in
    let kept = c.keep-place.ensures in
    let inside = c.content.ensures in
    let placed = c.context_box-placed.ensures in
    let size = c.outer_extent-size.ensures in
    let one = first_at {tree = tree} {asks = asks} left.goes left.cause (λ a e o. zero-fits) in
    let two = more_at one band.goes band.cause (λ a e o.
    band-fits (at c.zero-left.result e) (f e).x (subst (λ (z : ℤ). IsAsideLow z) (sym (left.value e o)) (zero-small (2 ^ 90))) (a e o).frame.x) in
    let three = more_at two top.goes top.cause (λ a e o. top-fits (f e) (a e o).frame) in
    let four = more_at three own.goes own.cause (λ a e o. subst IsNear (sym (top.value e o)) (top-near (f e) (a e o).frame)) in
    let five = more four kept.goes kept.cause (λ a e o. kept-fits (f e) (a.1 e o).frame) in
    let band-is = (λ (e : Reading) (o : IsTrue ((g.S.Steady.run c.keep-place.new.calc).is_open e)).
    let o1 = top.goes.closes e (own.goes.closes e (kept.goes.closes e o)) in
    band.value e o1 ∙ ap (λ (z : ℤ). content_from z (f e).x) (left.value e (band.goes.closes e o1))) in
    let top-is = (λ (e : Reading) (o : IsTrue ((g.S.Steady.run c.keep-place.new.calc).is_open e)). top.value e (own.goes.closes e (kept.goes.closes e o))) in
    let own-is = (λ (e : Reading) (o : IsTrue ((g.S.Steady.run c.keep-place.new.calc).is_open e)). own.value e (kept.goes.closes e o) ∙ ap fresh (top-is e o)) in
    let six = more five inside.goes inside.cause (λ a. (
      a.0,
      λ e o.
          content-moved tree e.world (apart e) b (band_at at c.content_between-band.result e) (content_from (pos 0) (f e).x) (at c.content_top-top.result e) (content_top (f e)) (context_at at c.fresh-context.result e) (fresh (content_top (f e)))
          (band-is e o) (top-is e o) (own-is e o) (a.1 e o).inside,
    )) in
    let end-is = (λ (e : Reading) (o : IsTrue ((g.S.Steady.run c.content.new.calc).is_open e)).
    inside.context e o
    ∙ end-moved tree e.world (apart e) b (band_at at c.content_between-band.result e) (content_from (pos 0) (f e).x) (at c.content_top-top.result e) (content_top (f e)) (context_at at c.fresh-context.result e) (fresh (content_top (f e)))
    (band-is e (inside.goes.closes e o)) (top-is e (inside.goes.closes e o)) (own-is e (inside.goes.closes e o))) in
    let seven = more_at six placed.goes placed.cause (λ a e o.
    let x = a e o in (x.own_height, (x.frame, subst IsContextLow (sym (end-is e o)) x.end))) in
    (more_at seven size.goes size.cause (λ a e o.
    subst (λ (p : Placed ℤ). IsQuadIn near p.margin) (sym (placed.value e o ∙ ap (root_of tree e.world b (f e)) (end-is e (placed.goes.closes e o)))) (a e o).margin)).cause
