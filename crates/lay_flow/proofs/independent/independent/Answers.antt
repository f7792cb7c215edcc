use Rattle.std.proofs.Common.{◌≡◌, true, false, sym, subst, arith}
use Rattle.viz_calc.specs.World.{Reading}
use Rattle.viz_calc.proofs.Runs.{Goes-then}
use Rattle.layout_semantics.specs.FlowBoxes.{is_replaced_at}
use Rattle.lay_preferred.proofs.Founds.{found-later}
use Rattle.lay_frame.specs.Readings.{frame_at}
use Rattle.lay_flow.specs.Readings.{independent_at, apart_at}
use Rattle.layout_semantics.specs.Rectangles.{Frame}
use Rattle.lay_flow.specs.IndependentFits.{IndependentFits, RootFits}
use Rattle.lay_flow.specs.Low.{IsFrameLow}
use Rattle.lay_flow.proofs.Givens.{first, more}
use Rattle.lay_flow.proofs.IndependentBoxes.{from-replaced, from-context}
use Rattle.lay_flow.proofs.independent.independent.Goals as goal

pub returns-then-is_replaced-clause-goes : goal.returns-then-is_replaced-clause-goes
returns-then-is_replaced-clause-goes g c = Goes-then _ _ _ c.corner_shape-shape.ensures.goes c.replaced_independent.ensures.goes

pub returns-then-is_replaced-clause-found : goal.returns-then-is_replaced-clause-found
returns-then-is_replaced-clause-found g c =
    found-later g.S.Steady.at c.args.page.now.tree.now (g.S.Steady.run c.corner_shape-shape.new.calc) (g.S.Steady.run c.replaced_independent.new.calc) _ c.replaced_independent.ensures.goes c.corner_shape-shape.ensures.found

pub returns-then-is_replaced-clause-value : goal.returns-then-is_replaced-clause-value
returns-then-is_replaced-clause-value g c = λ e o.
    let at = g.S.Steady.at in
    let page = c.args.page.now in
    let tree = page.tree.now in
    let is : is_replaced_at tree c.args.b ≡ true = grind arith in
    from-replaced tree e.world (apart_at at page.apart.now e) c.args.b (at c.args.room.now e) (independent_at at c.replaced_independent.result e) (frame_at at c.corner_shape-shape.result e) is
    (c.replaced_independent.ensures.value e o) (c.corner_shape-shape.ensures.value e (c.replaced_independent.ensures.goes.closes e o))

pub returns-clause-goes : goal.returns-clause-goes
returns-clause-goes g c = Goes-then _ _ _ c.corner_shape-shape.ensures.goes c.context_independent.ensures.goes

pub returns-clause-found : goal.returns-clause-found
returns-clause-found g c =
    found-later g.S.Steady.at c.args.page.now.tree.now (g.S.Steady.run c.corner_shape-shape.new.calc) (g.S.Steady.run c.context_independent.new.calc) _ c.context_independent.ensures.goes c.corner_shape-shape.ensures.found

pub returns-clause-value : goal.returns-clause-value
returns-clause-value g c = λ e o.
    let at = g.S.Steady.at in
    let page = c.args.page.now in
    let tree = page.tree.now in
    let is : is_replaced_at tree c.args.b ≡ false = grind arith in
    from-context tree e.world (apart_at at page.apart.now e) c.args.b (at c.args.room.now e) (independent_at at c.context_independent.result e) (frame_at at c.corner_shape-shape.result e) is
    (c.context_independent.ensures.value e o) (c.corner_shape-shape.ensures.value e (c.context_independent.ensures.goes.closes e o))

pub returns-then-is_replaced-clause-cause : goal.returns-then-is_replaced-clause-cause
returns-then-is_replaced-clause-cause g c =
    let at = g.S.Steady.at in
    let page = c.args.page.now in
    let tree = page.tree.now in
    let b = c.args.b in
    let asks = (λ (e : Reading). IndependentFits tree e.world (apart_at at page.apart.now e) b (at c.args.room.now e)) in
    let is : is_replaced_at tree b ≡ true = grind arith in
    let shape = c.corner_shape-shape.ensures in
    let laid = c.replaced_independent.ensures in
    let one = first {tree = tree} {asks = asks} shape.goes shape.cause (λ a. (a.0, λ e o. (a.1 e o).shape)) in
    (more one laid.goes laid.cause (λ a e o. ((a.1 e o).replaced is, subst IsFrameLow (sym (shape.value e o)) (a.1 e o).frame))).cause

pub returns-clause-cause : goal.returns-clause-cause
returns-clause-cause g c =
    let at = g.S.Steady.at in
    let page = c.args.page.now in
    let tree = page.tree.now in
    let b = c.args.b in
    let asks = (λ (e : Reading). IndependentFits tree e.world (apart_at at page.apart.now e) b (at c.args.room.now e)) in
    let is : is_replaced_at tree b ≡ false = grind arith in
    let shape = c.corner_shape-shape.ensures in
    let laid = c.context_independent.ensures in
    let one = first {tree = tree} {asks = asks} shape.goes shape.cause (λ a. (a.0, λ e o. (a.1 e o).shape)) in
    (more one laid.goes laid.cause (λ a. (
      a.0,
      λ e o.
          subst (λ (f : Frame). RootFits tree e.world (apart_at at page.apart.now e) b f) (sym (shape.value e o)) ((a.1 e o).root is),
    ))).cause
