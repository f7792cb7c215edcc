use Rattle.std.proofs.Common.{◌≡◌, ◌-◌, length, ap, sym, ◌∙◌, arith}
use Rattle.std.proofs.lemmas.List.{length-map}
use Rattle.viz_calc.proofs.Runs.{Goes-then, Blames-then}
use Rattle.viz_calc.specs.Renderings.{band_at, spot_at}
use Rattle.layout_semantics.specs.Floats.{highest_top}
use Rattle.lay_float.specs.Readings.{box_at, boxes_at, extent_at, floats_at}
use Rattle.lay_float.specs.steps.Lent.{place_at}
use Rattle.lay_float.specs.steps.Shelves.{Ahead, free_top, place_on, spot_on}
use Rattle.lay_float.proofs.Ended.{level_found}
use Rattle.lay_float.proofs.Spots.{spot_found, spot_fits, shelf_fits}
use Rattle.lay_float.proofs.engine.spot_behind.Goals as goal

pub returns-clause-goes : goal.returns-clause-goes
returns-clause-goes g c = Goes-then _ _ _ (Goes-then _ _ _ c.ahead_of.ensures.goes c.free_place-place.ensures.goes) c.spot_on-spot.ensures.goes

pub returns-clause-value : goal.returns-clause-value
returns-clause-value g c = λ e o.
    let at = g.S.Steady.at in
    let o1 = c.spot_on-spot.ensures.goes.closes e o in
    let o2 = c.free_place-place.ensures.goes.closes e o1 in
    let fs = floats_at at c.args.floats.now e in
    let rest = boxes_at at c.ahead_of.result.rest.now e in
    let high = ap (λ (a : Ahead). a.high) (c.ahead_of.ensures.value e o2) in
    c.spot_on-spot.ensures.value e o
    ∙ ap (spot_on c.args.side (at c.args.size.now.width e)) (c.free_place-place.ensures.value e o1)
    ∙ ap (λ z. spot_on c.args.side (at c.args.size.now.width e) (place_on rest c.args.side (band_at at c.args.cb.now e)
    (free_top (length c.ahead_of.result.rest.now) rest c.args.side (at c.args.size.now.width e) (band_at at c.args.cb.now e) z))) high
    ∙ spot_found (length c.ahead_of.result.rest.now) fs rest c.args.side (extent_at at c.args.size.now e) (band_at at c.args.cb.now e) (at c.args.top.now e)
    (ap (λ (a : Ahead). a.rest) (c.ahead_of.ensures.value e o2)) (sym (length-map c.ahead_of.result.rest.now (λ f. box_at at f e)))

pub returns-clause-level : goal.returns-clause-level
returns-clause-level g c = λ e o.
    let at = g.S.Steady.at in
    let o2 = c.free_place-place.ensures.goes.closes e (c.spot_on-spot.ensures.goes.closes e o) in
    let rest = c.ahead_of.result.rest.now in
    let count : c.saturating_sub.result ≡ length (floats_at at c.args.floats.now e) - length (boxes_at at rest e) =
    (let all = length-map c.args.floats.now.placed (λ f. box_at at f e) in let few = length-map rest (λ f. box_at at f e) in grind arith) in
    level_found (floats_at at c.args.floats.now e) (boxes_at at rest e) c.args.side (extent_at at c.args.size.now e) (band_at at c.args.cb.now e) (at c.args.top.now e) c.saturating_sub.result
    (spot_at at c.spot_on-spot.result e) count (ap (λ (a : Ahead). a.rest) (c.ahead_of.ensures.value e o2)) (returns-clause-value g c e o)

pub returns-clause-cause : goal.returns-clause-cause
returns-clause-cause g c =
    let at = g.S.Steady.at in
    let run = g.S.Steady.run in
    let ahead = c.ahead_of.ensures in
    let rest = c.ahead_of.result.rest.now in
    let first = Blames-then (run c.args.calc.now) (run c.ahead_of.new.calc) (run c.free_place-place.new.calc) _ _ ahead.goes c.free_place-place.ensures.goes
    (record { mem = ahead.cause.mem; coeff = λ f. ahead.cause.coeff (λ e o. tt); opens = ahead.cause.opens })
    (λ f e o.
    let high = ap (λ (a : Ahead). a.high) (ahead.value e o) in
    shelf_fits (floats_at at c.args.floats.now e) (boxes_at at rest e) c.args.side (at c.args.size.now.width e) (band_at at c.args.cb.now e) (at c.args.top.now e)
    (highest_top (floats_at at c.args.floats.now e) (at c.args.top.now e)) (f e (ahead.goes.closes e o)) (ap (λ (a : Ahead). a.rest) (ahead.value e o)))
    c.free_place-place.ensures.cause in
    Blames-then (run c.args.calc.now) (run c.free_place-place.new.calc) (run c.spot_on-spot.new.calc) _ _ (Goes-then _ _ _ ahead.goes c.free_place-place.ensures.goes) c.spot_on-spot.ensures.goes first
    (λ f e o.
    let o2 = c.free_place-place.ensures.goes.closes e o in
    let fs = floats_at at c.args.floats.now e in
    let high = ap (λ (a : Ahead). a.high) (ahead.value e o2) in
    spot_fits (length rest) fs (boxes_at at rest e) c.args.side (at c.args.size.now.width e) (band_at at c.args.cb.now e) (at c.args.top.now e) (place_at at c.free_place-place.result e)
    (f e (ahead.goes.closes e o2)) (ap (λ (a : Ahead). a.rest) (ahead.value e o2)) (sym (length-map rest (λ f. box_at at f e)))
    (c.free_place-place.ensures.value e o
    ∙ ap (λ z. place_on (boxes_at at rest e) c.args.side (band_at at c.args.cb.now e) (free_top (length rest) (boxes_at at rest e) c.args.side (at c.args.size.now.width e) (band_at at c.args.cb.now e) z)) high))
    c.spot_on-spot.ensures.cause
