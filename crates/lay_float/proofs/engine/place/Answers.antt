use Rattle.std.proofs.Common.{ℤ, ◌+ℤ◌, ◌∷◌, [], ◌++◌, ap, sym, ◌∙◌, subst, arith}
use Rattle.std.proofs.lemmas.List.{map-append, length-map}
use Rattle.std.specs.Prelude.{⊤}
use Rattle.viz_base.specs.declared.layouts.Spot.{Spot}
use Rattle.viz_calc.specs.State.{AllSmall}
use Rattle.viz_calc.proofs.Runs.{Goes-then, BlamesButMem-then}
use Rattle.viz_calc.specs.Renderings.{band_at}
use Rattle.layout_semantics.specs.Floats.{FloatBox}
use Rattle.lay_float.specs.Agreement.{IsLevel}
use Rattle.lay_float.specs.Places.{IsHighest}
use Rattle.lay_float.specs.Readings.{box_at, boxes_at, floats_at, extent_at}
use Rattle.lay_float.proofs.Agreeing.{more-kept}
use Rattle.lay_float.proofs.Highest.{highest_is}
use Rattle.lay_float.proofs.Spots.{placed_small}
use Rattle.lay_float.proofs.engine.place.Goals as goal

pub returns-clause-highest : goal.returns-clause-highest
returns-clause-highest g c = λ e o.
    let at = g.S.Steady.at in
    let o1 = c.append.ensures.goes.closes e o in
    let o2 = c.outer_box-placed.ensures.goes.closes e o1 in
    subst (IsHighest (floats_at at c.args.floats.now e) c.args.side (at c.args.size.now.width e) (band_at at c.args.cb.now e) (at c.args.top.now e))
    (sym (c.spot_behind-spot.ensures.value e o2))
    (highest_is (floats_at at c.args.floats.now e) c.args.side (extent_at at c.args.size.now e) (band_at at c.args.cb.now e) (at c.args.top.now e))

pub returns-clause-cause : goal.returns-clause-cause
returns-clause-cause g c =
    let at = g.S.Steady.at in
    let run = g.S.Steady.run in
    let found = c.spot_behind-spot.ensures in
    let goes = Goes-then _ _ _ found.goes c.outer_box-placed.ensures.goes in
    let second = BlamesButMem-then (run c.args.calc.now) (run c.spot_behind-spot.new.calc) (run c.outer_box-placed.new.calc) _ _ found.goes c.outer_box-placed.ensures.goes
    (record {
      coeff = λ f. found.cause.coeff (λ e o. record { edges = (f e o).edges; numbers = ((f e o).numbers.0, (f e o).numbers.1.1) });
      opens = found.cause.opens;
    })
    (λ f e o.
    subst (λ (s : Spot ℤ). AllSmall (s.x ∷ s.y ∷ (s.x +ℤ at c.args.size.now.width e) ∷ (s.y +ℤ at c.args.size.now.height e) ∷ []))
    (sym (found.value e o))
    (placed_small (floats_at at c.args.floats.now e) c.args.side (extent_at at c.args.size.now e) (band_at at c.args.cb.now e) (at c.args.top.now e) (f e (found.goes.closes e o))))
    (record { coeff = c.outer_box-placed.ensures.cause.coeff; opens = c.outer_box-placed.ensures.cause.opens }) in
    BlamesButMem-then (run c.args.calc.now) (run c.outer_box-placed.new.calc) (run c.append.new.calc) ⊤ _ goes c.append.ensures.goes second (λ _. tt) c.append.ensures.cause

pub returns-clause-goes : goal.returns-clause-goes
returns-clause-goes g c = Goes-then _ _ _ (Goes-then _ _ _ c.spot_behind-spot.ensures.goes c.outer_box-placed.ensures.goes) c.append.ensures.goes

pub returns-clause-value : goal.returns-clause-value
returns-clause-value g c = λ e o. c.spot_behind-spot.ensures.value e (c.outer_box-placed.ensures.goes.closes e (c.append.ensures.goes.closes e o))

pub returns-clause-appended : goal.returns-clause-appended
returns-clause-appended g c = λ e o.
    let at = g.S.Steady.at in
    ap (λ l. boxes_at at l e) (c.append.ensures.value e o)
    ∙ map-append (λ f. box_at at f e) c.args.floats.now.placed _
    ∙ ap (λ b. floats_at at c.args.floats.now e ++ b ∷ []) (c.outer_box-placed.ensures.value e (c.append.ensures.goes.closes e o))

pub returns-clause-halted : goal.returns-clause-halted
returns-clause-halted g c = c.append.ensures.halted

pub returns-clause-agrees : goal.returns-clause-agrees
returns-clause-agrees g c = λ e o.
    let at = g.S.Steady.at in
    let o1 = c.append.ensures.goes.closes e o in
    let old = floats_at at c.args.floats.now e in
    let top = ap (λ (f : FloatBox). f.box.top) (c.outer_box-placed.ensures.value e o1) in
    more-kept old (floats_at at c.append.new.floats e) (box_at at c.outer_box-placed.result e) c.spot_behind-spot.result.ended c.append.new.floats.ended
    (ap (λ l. boxes_at at l e) (c.append.ensures.value e o) ∙ map-append (λ f. box_at at f e) c.args.floats.now.placed _)
    (c.append.ensures.ended e o) (let m = length-map c.args.floats.now.placed (λ f. box_at at f e) in let l = c.spot_behind-spot.ensures.within in omega (arith, l, m))
    (subst (IsLevel old c.spot_behind-spot.result.ended) (sym top) (c.spot_behind-spot.ensures.level e (c.outer_box-placed.ensures.goes.closes e o1)))
