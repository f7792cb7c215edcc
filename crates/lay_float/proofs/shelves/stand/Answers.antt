use Rattle.std.proofs.Common.{sym, subst}
use Rattle.viz_calc.specs.State.{IsSmall}
use Rattle.viz_calc.specs.Renderings.{band_at}
use Rattle.viz_calc.proofs.Blamed.{Blames-given}
use Rattle.viz_calc.proofs.Runs.{Goes-then, Blames-then}
use Rattle.lay_float.specs.Readings.{boxes_at}
use Rattle.lay_float.specs.steps.Lent.{shelf_at, FitsAnywhere}
use Rattle.lay_float.specs.steps.Shelves.{Shelf, far_edge}
use Rattle.lay_float.proofs.Stands.{stands, stands_not}
use Rattle.lay_float.proofs.shelves.stand.Goals as goal

pub returns-then-is_free-clause-goes : goal.returns-then-is_free-clause-goes
returns-then-is_free-clause-goes g c = Goes-then _ _ _ c.shelf_on-shelf.ensures.goes c.is_free.ensures.goes

pub returns-then-is_free-clause-value : goal.returns-then-is_free-clause-value
returns-then-is_free-clause-value g c = λ e o.
    let at = g.S.Steady.at in
    stands (boxes_at at c.args.floats.now e) c.args.side (at c.args.width.now e) (band_at at c.args.cb.now e) (at c.args.y.now e) (shelf_at at c.shelf_on-shelf.result e)
    (c.shelf_on-shelf.ensures.value e (c.is_free.ensures.goes.closes e o)) (c.if-is_free.ensures.value e o)

pub returns-then-is_free-clause-cause : goal.returns-then-is_free-clause-cause
returns-then-is_free-clause-cause g c =
    let at = g.S.Steady.at in
    let run = g.S.Steady.run in
    let on = c.shelf_on-shelf.ensures in
    Blames-then (run c.args.calc.now) (run c.shelf_on-shelf.new.calc) (run c.is_free.new.calc) _ (FitsAnywhere (run c.args.calc.now) at c.args.floats.now c.args.side c.args.cb.now c.args.width.now)
    on.goes c.is_free.ensures.goes (Blames-given _ _ _ _ (λ f e o. tt) on.cause)
    (λ f e o. (
      subst (λ (s : Shelf). IsSmall (far_edge c.args.side s.edge (at c.args.width.now e))) (sym (on.value e o)) (f e (on.goes.closes e o) (at c.args.y.now e)),
      tt,
    ))
    c.is_free.ensures.cause

pub returns-else-is_free-clause-goes : goal.returns-else-is_free-clause-goes
returns-else-is_free-clause-goes g c = Goes-then _ _ _ c.shelf_on-shelf.ensures.goes c.is_free.ensures.goes

pub returns-else-is_free-clause-value : goal.returns-else-is_free-clause-value
returns-else-is_free-clause-value g c = λ e o.
    let at = g.S.Steady.at in
    stands_not (boxes_at at c.args.floats.now e) c.args.side (at c.args.width.now e) (band_at at c.args.cb.now e) (at c.args.y.now e) (shelf_at at c.shelf_on-shelf.result e)
    (c.shelf_on-shelf.ensures.value e (c.is_free.ensures.goes.closes e o)) (c.if-is_free.ensures.value e o)

pub returns-else-is_free-clause-cause : goal.returns-else-is_free-clause-cause
returns-else-is_free-clause-cause g c =
    let at = g.S.Steady.at in
    let run = g.S.Steady.run in
    let on = c.shelf_on-shelf.ensures in
    Blames-then (run c.args.calc.now) (run c.shelf_on-shelf.new.calc) (run c.is_free.new.calc) _ (FitsAnywhere (run c.args.calc.now) at c.args.floats.now c.args.side c.args.cb.now c.args.width.now)
    on.goes c.is_free.ensures.goes (Blames-given _ _ _ _ (λ f e o. tt) on.cause)
    (λ f e o. (
      subst (λ (s : Shelf). IsSmall (far_edge c.args.side s.edge (at c.args.width.now e))) (sym (on.value e o)) (f e (on.goes.closes e o) (at c.args.y.now e)),
      tt,
    ))
    c.is_free.ensures.cause
