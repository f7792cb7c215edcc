use Rattle.std.proofs.Common.{◌^◌, ◌++◌, ap, sym, subst, ◌∙◌, IsTrue, arith}
use Rattle.viz_calc.specs.World.{Reading}
use Rattle.viz_calc.specs.Renderings.{band_at, spot_at}
use Rattle.std.specs.Int.{int_max}
use Rattle.lay_frame.specs.Readings.{boxes_at}
use Rattle.layout_semantics.specs.Floats.{floating}
use Rattle.lay_float.specs.Readings.{extent_at, floats_at, option_at}
use Rattle.lay_line.proofs.Chains.{start_but_mem, next_but_mem, but_mem}
use Rattle.page_limits.specs.Bounds.{IsExtentIn}
use Rattle.lay_steps.specs.Flow.{next_edge}
use Rattle.lay_flow.specs.Low.{reach, IsIndependentLow, IsBandLow, IsContextLow}
use Rattle.lay_flow.specs.Fits.{IsNear, IsSpotNear}
use Rattle.lay_flow.specs.Readings.{apart_at, context_at}
use Rattle.lay_flow.proofs.Framed.{next-edge-small}
use Rattle.lay_flow.proofs.Sizes.{wider, greater, near-fits}
use Rattle.lay_flow.proofs.Spots.{place-half, spot-near, spot-lent, half-lent}
use Rattle.lay_steps.proofs.WalkSteps.{float-context, float-boxes}
use Rattle.lay_flow.proofs.walk.float.Goals as goal

pub place_float-spot-requires : goal.place_float-spot-requires
place_float-spot-requires g c = λ e o.
    c.requires e (c.size_of-size.ensures.goes.closes e (c.next_edge-edge.ensures.goes.closes e (c.copy-from.ensures.goes.closes e (c.greater-y.ensures.goes.closes e o))))

pub returns-clause-agrees : goal.returns-clause-agrees
returns-clause-agrees g c = λ e o. c.place_float-spot.ensures.agrees e (c.add_apart.ensures.goes.closes e o)

pub returns-clause-context : goal.returns-clause-context
returns-clause-context g c = λ e o.
    let at = g.S.Steady.at in
    let page = c.args.page.now in
    let o1 = c.add_apart.ensures.goes.closes e o in
    let o2 = c.place_float-spot.ensures.goes.closes e o1 in
    let o3 = c.greater-y.ensures.goes.closes e o2 in
    let o4 = c.copy-from.ensures.goes.closes e o3 in
    let y = c.greater-y.ensures.value e o2 in
    let from = c.copy-from.ensures.value e o3 in
    float-context page.tree.now e.world (apart_at at page.apart.now e) (band_at at c.args.cb.now e) (at c.args.top.now e) (context_at at c.args.context.now e) c.args.k
    (extent_at at c.size_of-size.result e) (at c.next_edge-edge.result e) (at c.greater-y.result e) (spot_at at c.place_float-spot.result e) (floats_at at c.place_float-spot.new.floats e)
    (c.size_of-size.ensures.value e (c.next_edge-edge.ensures.goes.closes e o4)) (c.next_edge-edge.ensures.value e o4) (y ∙ ap (λ f. int_max f (at c.next_edge-edge.result e)) from)
    (spot-lent at e c.as_ref.result c.args.context.now.least c.as_ref.ensures.value (floating page.tree.now c.args.k (extent_at at c.size_of-size.result e) (band_at at c.args.cb.now e)) (floats_at at c.args.context.now.floats e)
    (at c.greater-y.result e) (spot_at at c.place_float-spot.result e) (c.place_float-spot.ensures.value e o1))
    (c.place_float-spot.ensures.appended e o1)

pub returns-clause-boxes : goal.returns-clause-boxes
returns-clause-boxes g c = λ e o.
    let at = g.S.Steady.at in
    let page = c.args.page.now in
    let o1 = c.add_apart.ensures.goes.closes e o in
    let o2 = c.place_float-spot.ensures.goes.closes e o1 in
    let o3 = c.greater-y.ensures.goes.closes e o2 in
    let o4 = c.copy-from.ensures.goes.closes e o3 in
    let y = c.greater-y.ensures.value e o2 in
    let from = c.copy-from.ensures.value e o3 in
    c.add_apart.ensures.value e o
    ∙ ap (λ l. boxes_at at c.args.out.now.items e ++ l)
    (float-boxes page.tree.now e.world (apart_at at page.apart.now e) (band_at at c.args.cb.now e) (at c.args.top.now e) (context_at at c.args.context.now e) c.args.k
    (extent_at at c.size_of-size.result e) (at c.next_edge-edge.result e) (at c.greater-y.result e) (spot_at at c.place_float-spot.result e)
    (c.size_of-size.ensures.value e (c.next_edge-edge.ensures.goes.closes e o4)) (c.next_edge-edge.ensures.value e o4) (y ∙ ap (λ f. int_max f (at c.next_edge-edge.result e)) from)
    (spot-lent at e c.as_ref.result c.args.context.now.least c.as_ref.ensures.value (floating page.tree.now c.args.k (extent_at at c.size_of-size.result e) (band_at at c.args.cb.now e)) (floats_at at c.args.context.now.floats e)
    (at c.greater-y.result e) (spot_at at c.place_float-spot.result e) (c.place_float-spot.ensures.value e o1)))

pub returns-clause-cause : goal.returns-clause-cause
returns-clause-cause g c =
    let at = g.S.Steady.at in
    let tree = c.args.page.now.tree.now in
    let context = c.args.context.now in
    let top = c.args.top.now in
    let independent = (λ (e : Reading). apart_at at c.args.page.now.apart.now e c.args.k) in
    let band = (λ (e : Reading). band_at at c.args.cb.now e) in
    let asks = (λ (e : Reading). IsContextLow (context_at at context e) × (IsBandLow (band e) × (IsNear (at top e) × IsIndependentLow (independent e)))) in
    let size = c.size_of-size.ensures in
    let edge = c.next_edge-edge.ensures in
    let from = c.copy-from.ensures in
    let y = c.greater-y.ensures in
    let spot = c.place_float-spot.ensures in
    let extent = (λ (e : Reading). extent_at at c.size_of-size.result e) in
    let floats = (λ (e : Reading). floats_at at context.floats e) in
    let least = (λ (e : Reading). option_at at context.least e) in
    let one = start_but_mem {asks = asks} size.goes (but_mem size.cause) (λ f e o. (f e o).1.1.1.size) in
    let two = next_but_mem one edge.goes (but_mem edge.cause) (λ f e o. (f e o).0.standing) in
    let three = next_but_mem two from.goes (but_mem from.cause) (λ f e o. near-fits (at top e) (f e o).1.1.0) in
    let four = next_but_mem three y.goes (but_mem y.cause) (λ f e o. tt) in
    let sized = (λ (e : Reading) (o : IsTrue ((g.S.Steady.run c.greater-y.new.calc).is_open e)) (a : asks e).
    subst (IsExtentIn reach) (sym (size.value e (edge.goes.closes e (from.goes.closes e (y.goes.closes e o))))) a.1.1.1.size) in
    let comes = (λ (e : Reading) (o : IsTrue ((g.S.Steady.run c.greater-y.new.calc).is_open e)) (a : asks e).
    let o3 = y.goes.closes e o in
    let o2 = from.goes.closes e o3 in
    let low = subst IsNear (sym (edge.value e o2)) (wider (2 ^ 92) (2 ^ 95) (next_edge (context_at at context e).standing) (next-edge-small (context_at at context e).standing a.0.standing) (omega arith)) in
    subst IsNear (sym (y.value e o)) (greater (2 ^ 95) (at c.copy-from.result e) (at c.next_edge-edge.result e) (subst IsNear (sym (from.value e o3)) a.1.1.0) low)) in
    let five = next_but_mem four spot.goes spot.cause (λ f e o.
    let a = f e o in
    half-lent at e c.as_ref.result context.least c.as_ref.ensures.value (floats e) (extent e) (band e) (at c.greater-y.result e)
    (place-half (floats e) (extent e) (band e) (least e) (at c.greater-y.result e) a.0.floats (sized e o a) a.1.0 a.0.least (comes e o a))) in
    (next_but_mem five c.add_apart.ensures.goes c.add_apart.ensures.cause (λ f e o.
    let a = f e o in
    let o4 = spot.goes.closes e o in (
      subst IsSpotNear (sym (spot-lent at e c.as_ref.result context.least c.as_ref.ensures.value (floating tree c.args.k (extent e) (band e)) (floats e) (at c.greater-y.result e) (spot_at at c.place_float-spot.result e) (spot.value e o)))
          (spot-near (floating tree c.args.k (extent e) (band e)) (floats e) (least e) (at c.greater-y.result e) a.0.floats (sized e o4 a) a.1.0 a.0.least (comes e o4 a)),
      a.1.1.1,
    ))).cause
