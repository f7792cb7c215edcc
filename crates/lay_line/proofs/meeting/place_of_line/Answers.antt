use Rattle.std.proofs.Common.{refl, ◌∷◌, [], ap, sym, subst, ◌∙◌}
use Rattle.std.specs.Prelude.{Some}
use Rattle.viz_base.specs.declared.layouts.Extent.{Extent}
use Rattle.viz_calc.specs.World.{Reading}
use Rattle.viz_calc.specs.Renderings.{spot_at}
use Rattle.layout_semantics.specs.Floats.{floating, float_spot, with_float_at}
use Rattle.lay_float.specs.Limits.{AreHalf}
use Rattle.lay_float.specs.Readings.{floats_at}
use Rattle.lay_float.proofs.Agreeing.{unknown}
use Rattle.lay_line.specs.Contexts.{context_at}
use Rattle.lay_line.specs.Limits.{PlacesFit}
use Rattle.lay_line.specs.steps.Words.{size_in, spot_in, floats_with}
use Rattle.lay_line.proofs.Chains.{start_but_mem, next_but_mem, but_mem}
use Rattle.lay_line.proofs.Placing.{place_fits, size_small}
use Rattle.lay_line.proofs.meeting.place_of_line.Goals as goal

pub place_float-requires : goal.place_float-requires
place_float-requires g c = unknown g.S.Steady.at (g.S.Steady.run c.float_size-size.new.calc).is_open _ refl

pub returns-clause-value : goal.returns-clause-value
unfolding context_at size_in spot_in
returns-clause-value g c = λ e o.
    let at = g.S.Steady.at in
    let ctx = context_at at c.args.container.now e in
    c.place_float.ensures.value e o
    ∙ ap (λ (s : Extent _). float_spot (floating ctx.tree c.args.at s ctx.cb) (floats_at at c.args.floats.now e) (Some (at c.args.least.now e)) (at c.args.y.now e))
    (c.float_size-size.ensures.value e (c.place_float.ensures.goes.closes e o))

pub returns-clause-appended : goal.returns-clause-appended
unfolding context_at size_in floats_with
returns-clause-appended g c = λ e o.
    let at = g.S.Steady.at in
    let ctx = context_at at c.args.container.now e in
    c.place_float.ensures.appended e o
    ∙ ap (λ (s : Extent _). with_float_at (floating ctx.tree c.args.at s ctx.cb) (floats_at at c.args.floats.now e) (spot_at at c.place_float.result e))
    (c.float_size-size.ensures.value e (c.place_float.ensures.goes.closes e o))

pub returns-clause-cause : goal.returns-clause-cause
unfolding context_at
returns-clause-cause g c =
    let at = g.S.Steady.at in
    let ctx = (λ (e : Reading). context_at at c.args.container.now e) in
    let floats = (λ (e : Reading). floats_at at c.args.floats.now e) in
    let least = (λ (e : Reading). at c.args.least.now e) in
    let y = (λ (e : Reading). at c.args.y.now e) in
    let asks = (λ (e : Reading). PlacesFit (ctx e) (floats e) (least e) (y e) (c.args.at ∷ [])) in
    let size = c.float_size-size.ensures in
    let placed = c.place_float.ensures in
    let one = start_but_mem {asks = asks} size.goes (but_mem size.cause) (λ f e o. size_small (ctx e) (floats e) (least e) (y e) c.args.at (f e o)) in
    (next_but_mem one placed.goes placed.cause (λ f e o.
    subst (λ (s : Extent _). AreHalf (floats e) (s.width ∷ s.height ∷ (ctx e).cb.left ∷ (ctx e).cb.right ∷ y e ∷ least e ∷ [])) (sym (size.value e o))
    (place_fits (ctx e) (floats e) (least e) (y e) c.args.at (f e o)))).cause
