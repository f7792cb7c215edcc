use Rattle.std.proofs.Common.{length, ap, sym, ◌∙◌}
use Rattle.std.proofs.lemmas.List.{length-map}
use Rattle.viz_calc.proofs.Runs.{Goes-then, Blames-then}
use Rattle.viz_calc.specs.Renderings.{band_at}
use Rattle.lay_float.specs.Readings.{box_at, boxes_at, extent_at}
use Rattle.lay_float.specs.steps.Lent.{place_at}
use Rattle.lay_float.specs.steps.Shelves.{free_top, place_on, spot_on, open_from}
use Rattle.lay_float.proofs.Spots.{spot_found, spot_fits, shelf_fits}
use Rattle.lay_float.proofs.engine.float_at.Goals as goal

pub returns : goal.returns
returns g c = record {
  goes = Goes-then _ _ _ (Goes-then _ _ _ (Goes-then _ _ _ c.highest_top-high.ensures.goes c.open_from-rest.ensures.goes) c.free_place-place.ensures.goes) c.spot_on.ensures.goes;
  value = λ e o.
      let at = g.S.Steady.at in
      let o1 = c.spot_on.ensures.goes.closes e o in
      let o2 = c.free_place-place.ensures.goes.closes e o1 in
      let o3 = c.open_from-rest.ensures.goes.closes e o2 in
      let fs = boxes_at at c.args.floats.now e in
      let rest = boxes_at at c.open_from-rest.result.now e in
      let high = c.highest_top-high.ensures.value e o3 in
      c.spot_on.ensures.value e o
      ∙ ap (spot_on c.args.side (at c.args.size.now.width e)) (c.free_place-place.ensures.value e o1)
      ∙ ap (λ z. spot_on c.args.side (at c.args.size.now.width e) (place_on rest c.args.side (band_at at c.args.cb.now e)
      (free_top (length c.open_from-rest.result.now) rest c.args.side (at c.args.size.now.width e) (band_at at c.args.cb.now e) z))) high
      ∙ spot_found (length c.open_from-rest.result.now) fs rest c.args.side (extent_at at c.args.size.now e) (band_at at c.args.cb.now e) (at c.args.top.now e)
      (c.open_from-rest.ensures.value e o2 ∙ ap (λ h. open_from h fs) high) (sym (length-map c.open_from-rest.result.now (λ f. box_at at f e)));
  cause =
      let at = g.S.Steady.at in
      let run = g.S.Steady.run in
      let before = Goes-then _ _ _ c.highest_top-high.ensures.goes c.open_from-rest.ensures.goes in
      let first = Blames-then (run c.args.calc.now) (run c.highest_top-high.new.calc) (run c.open_from-rest.new.calc) _ _ c.highest_top-high.ensures.goes c.open_from-rest.ensures.goes
      (record { mem = c.highest_top-high.ensures.cause.mem; coeff = λ f. c.highest_top-high.ensures.cause.coeff (λ e o. tt); opens = c.highest_top-high.ensures.cause.opens })
      (λ f e o. tt) c.open_from-rest.ensures.cause in
      let second = Blames-then (run c.args.calc.now) (run c.open_from-rest.new.calc) (run c.free_place-place.new.calc) _ _ before c.free_place-place.ensures.goes first
      (λ f e o.
      let o3 = c.open_from-rest.ensures.goes.closes e o in
      shelf_fits (boxes_at at c.args.floats.now e) (boxes_at at c.open_from-rest.result.now e) c.args.side (at c.args.size.now.width e) (band_at at c.args.cb.now e) (at c.args.top.now e)
      (at c.highest_top-high.result.now e) (f e (c.highest_top-high.ensures.goes.closes e o3)) (c.open_from-rest.ensures.value e o))
      c.free_place-place.ensures.cause in
      Blames-then (run c.args.calc.now) (run c.free_place-place.new.calc) (run c.spot_on.new.calc) _ _ (Goes-then _ _ _ before c.free_place-place.ensures.goes) c.spot_on.ensures.goes second
      (λ f e o.
      let o2 = c.free_place-place.ensures.goes.closes e o in
      let o3 = c.open_from-rest.ensures.goes.closes e o2 in
      let fs = boxes_at at c.args.floats.now e in
      let rest = boxes_at at c.open_from-rest.result.now e in
      let high = c.highest_top-high.ensures.value e o3 in
      spot_fits (length c.open_from-rest.result.now) fs rest c.args.side (at c.args.size.now.width e) (band_at at c.args.cb.now e) (at c.args.top.now e) (place_at at c.free_place-place.result e)
      (f e (c.highest_top-high.ensures.goes.closes e o3)) (c.open_from-rest.ensures.value e o2 ∙ ap (λ h. open_from h fs) high) (sym (length-map c.open_from-rest.result.now (λ f. box_at at f e)))
      (c.free_place-place.ensures.value e o
      ∙ ap (λ z. place_on rest c.args.side (band_at at c.args.cb.now e) (free_top (length c.open_from-rest.result.now) rest c.args.side (at c.args.size.now.width e) (band_at at c.args.cb.now e) z)) high))
      c.spot_on.ensures.cause;
}
