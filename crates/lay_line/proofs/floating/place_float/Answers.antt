use Rattle.std.proofs.Common.{ℤ, List, [], ◌∷◌, ◌++◌, sym, subst, ap, ◌∙◌}
use Rattle.std.specs.Option.{option_to_list}
use Rattle.viz_calc.specs.World.{Reading}
use Rattle.viz_calc.specs.Renderings.{band_at, spot_at}
use Rattle.viz_calc.proofs.Runs.{Goes-then}
use Rattle.layout_semantics.specs.Floats.{floating, float_at, float_top, placed_float}
use Rattle.lay_float.specs.Limits.{IsHalf, AreHalf}
use Rattle.lay_float.specs.Readings.{boxes_at, extent_at, floats_at}
use Rattle.lay_float.specs.steps.Lent.{lent_at}
use Rattle.lay_float.proofs.Agreeing.{later}
use Rattle.lay_float.proofs.Rooms.{top_half}
use Rattle.lay_line.proofs.Chains.{start_but_mem, next_but_mem, but_mem}
use Rattle.lay_line.proofs.floating.place_float.Goals as goal

pub place-requires : goal.place-requires
place-requires g c = later g.S.Steady.at (g.S.Steady.run c.args.calc.now) (g.S.Steady.run c.float_top-top.new.calc) c.args.floats.now c.float_top-top.ensures.goes c.requires

pub returns : goal.returns
returns g c =
    let at = g.S.Steady.at in
    let size = c.args.size.now in
    let cb = c.args.cb.now in
    let old = (λ (e : Reading). floats_at at c.args.floats.now e) in
    let f = (λ (e : Reading). floating c.args.tree.now c.args.at (extent_at at size e) (band_at at cb e)) in
    let least = (λ (e : Reading). lent_at at c.args.least e) in
    let y = (λ (e : Reading). at c.args.y.now e) in
    let levels = (λ (e : Reading). y e ∷ option_to_list (least e)) in
    let numbers = (λ (e : Reading) (rest : List ℤ). at size.width e ∷ at size.height e ∷ at cb.left e ∷ at cb.right e ∷ rest) in
    let asks = (λ (e : Reading). AreHalf (floats_at at c.args.floats.now e) (numbers e (levels e))) in
    let top = c.float_top-top.ensures in
    let placed = c.as_slice.result.now in
    let given = (λ (e : Reading) (a : asks e). subst (λ fs. AreHalf (boxes_at at fs e) (levels e)) (sym c.as_slice.ensures) (record { edges = a.edges; numbers = a.numbers.1.1.1.1 })) in
    let one = start_but_mem {asks = asks} top.goes (but_mem top.cause) (λ f e o. given e (f e o)) in
    record {
      goes = Goes-then _ _ _ top.goes c.place.ensures.goes;
      value = λ e o.
          c.place.ensures.value e o
          ∙ (ap (λ s. float_at (old e) s (f e).size (f e).cb (at c.float_top-top.result e)) c.float_side-side.ensures
          ∙ (ap (λ t. float_at (old e) (f e).side (f e).size (f e).cb t) (top.value e (c.place.ensures.goes.closes e o))
          ∙ (ap (λ k. float_at (old e) (f e).side (f e).size (f e).cb (float_top k (boxes_at at placed e) (least e) (y e))) c.clear-clear.ensures
          ∙ ap (λ l. float_at (old e) (f e).side (f e).size (f e).cb (float_top (f e).clear (boxes_at at l e) (least e) (y e))) c.as_slice.ensures)));
      appended = λ e o.
          c.place.ensures.appended e o
          ∙ ap (λ s. old e ++ placed_float s (f e).size (spot_at at c.place.result e) ∷ []) c.float_side-side.ensures;
      cause = (next_but_mem one c.place.ensures.goes c.place.ensures.cause (λ f e o.
          let a = f e o in
          let half = subst IsHalf (sym (top.value e o)) (top_half c.clear-clear.result (boxes_at at placed e) (least e) (y e) (given e a)) in
          record { edges = a.edges; numbers = (a.numbers.0, (a.numbers.1.0, (a.numbers.1.1.0, (a.numbers.1.1.1.0, (half, tt))))) })).cause;
      agrees = c.place.ensures.agrees;
    }
