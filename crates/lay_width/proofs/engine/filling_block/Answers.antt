use Rattle.std.proofs.Common.{false, IsTrue, Some, None, ap, ◌∙◌, sym, subst}
use Rattle.viz_calc.specs.World.{Reading}
use Rattle.viz_calc.proofs.Blamed.{Blames-given}
use Rattle.viz_calc.proofs.Runs.{Goes-then, Blames-then}
use Rattle.lay_width.specs.Readings.{widths_at}
use Rattle.lay_width.specs.Fitting.{FillingFits, FixedFits}
use Rattle.lay_width.specs.steps.Terms.{around, fixed_around}
use Rattle.lay_width.proofs.ClampedTerms.{filled-again, filled-fits}
use Rattle.lay_width.proofs.engine.filling_block.Goals as goal

pub returns-in-Some : goal.returns-in-Some
returns-in-Some g c = record {
  goes = Goes-then _ _ _ (Goes-then _ _ _ c.room-width.ensures.goes c.in-Some.ensures.goes) c.fixed_block.ensures.goes;
  value = λ e o.
      let at = g.S.Steady.at in
      let later = c.fixed_block.ensures.goes.closes e o in
      c.fixed_block.ensures.value e o
      ∙ filled-again c.args.tree.now e.world c.args.b (at c.args.cb.now e) (widths_at at c.args.edges e) (at c.room-width.result e) (Some (at c.in-Some.other e))
      (c.room-width.ensures.value e (c.in-Some.ensures.goes.closes e later)) (c.in-Some.ensures.value e later);
  cause =
      let at = g.S.Steady.at in
      let run = g.S.Steady.run in
      let room = c.room-width.ensures in
      let more = (e : Reading) → IsTrue ((run c.args.calc.now).is_open e) → FillingFits c.args.tree.now e.world c.args.b (at c.args.cb.now e) (widths_at at c.args.edges e) in
      Blames-then _ _ _ _ more (Goes-then _ _ _ room.goes c.in-Some.ensures.goes) c.fixed_block.ensures.goes
      (Blames-then _ _ _ _ more room.goes c.in-Some.ensures.goes
      (Blames-given _ _ _ more (λ f e o. ((f e o).0, (f e o).1.0)) room.cause)
      (λ f e o. (f e (room.goes.closes e o)).1.1.0) c.in-Some.ensures.cause)
      (λ f e o.
      let mid = c.in-Some.ensures.goes.closes e o in
      filled-fits c.args.tree.now e.world c.args.b (at c.args.cb.now e) (widths_at at c.args.edges e) (at c.room-width.result e) (Some (at c.in-Some.other e))
      (room.value e mid) (c.in-Some.ensures.value e o) (f e (room.goes.closes e mid)))
      c.fixed_block.ensures.cause;
}

pub returns-in-None : goal.returns-in-None
returns-in-None g c = record {
  goes = Goes-then _ _ _ (Goes-then _ _ _ c.room-width.ensures.goes c.in-None.ensures.goes) c.fixed.ensures.goes;
  value = λ e o.
      let at = g.S.Steady.at in
      let cb = at c.args.cb.now e in
      let edges = widths_at at c.args.edges e in
      let later = c.fixed.ensures.goes.closes e o in
      let width = c.room-width.ensures.value e (c.in-None.ensures.goes.closes e later) in
      c.fixed.ensures.value e o
      ∙ ap (λ t. fixed_around false false (widths_at at t e) cb) c.around-terms.ensures
      ∙ ap (λ x. fixed_around false false (around edges x) cb) width
      ∙ filled-again c.args.tree.now e.world c.args.b cb edges (at c.room-width.result e) None width (c.in-None.ensures.value e later);
  cause =
      let at = g.S.Steady.at in
      let run = g.S.Steady.run in
      let room = c.room-width.ensures in
      let more = (e : Reading) → IsTrue ((run c.args.calc.now).is_open e) → FillingFits c.args.tree.now e.world c.args.b (at c.args.cb.now e) (widths_at at c.args.edges e) in
      Blames-then _ _ _ _ more (Goes-then _ _ _ room.goes c.in-None.ensures.goes) c.fixed.ensures.goes
      (Blames-then _ _ _ _ more room.goes c.in-None.ensures.goes
      (Blames-given _ _ _ more (λ f e o. ((f e o).0, (f e o).1.0)) room.cause)
      (λ f e o. (f e (room.goes.closes e o)).1.1.0) c.in-None.ensures.cause)
      (λ f e o.
      let cb = at c.args.cb.now e in
      let edges = widths_at at c.args.edges e in
      let mid = c.in-None.ensures.goes.closes e o in
      let width = room.value e mid in
      subst (λ t. FixedFits false false (widths_at at t e) cb) (sym c.around-terms.ensures)
      (subst (λ x. FixedFits false false (around edges x) cb) (sym width)
      (filled-fits c.args.tree.now e.world c.args.b cb edges (at c.room-width.result e) None width (c.in-None.ensures.value e o) (f e (room.goes.closes e mid)))))
      c.fixed.ensures.cause;
}
