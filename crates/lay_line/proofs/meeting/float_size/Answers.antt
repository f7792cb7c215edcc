use Rattle.std.proofs.Common.{pos, sym, ap, ◌∙◌}
use Rattle.lay_line.proofs.Tables.{sized, size-some, size-none}
use Rattle.lay_line.proofs.Fitting.{sizes-some, sizes-none}
use Rattle.viz_calc.proofs.Runs.{Goes-then, Blames-then}
use Rattle.lay_line.proofs.meeting.float_size.Goals as goal

pub returns-in-Some : goal.returns-in-Some
returns-in-Some g c = record {
  goes = Goes-then _ _ _ c.copy-width.ensures.goes c.add-height.ensures.goes;
  value = λ e o.
      let at = g.S.Steady.at in
      ap (λ x. sized at e x (at c.add-height.result e)) (c.copy-width.ensures.value e (c.add-height.ensures.goes.closes e o))
      ∙ (ap (sized at e (at c.in-Some.inner.now.width e)) (c.add-height.ensures.value e o)
      ∙ sym (size-some at e c.args.container.now c.args.at c.in-Some.inner.now (sym c.in-Some.ensures)));
  cause =
      let at = g.S.Steady.at in
      let run = g.S.Steady.run in
      let width = c.copy-width.ensures in
      Blames-then (run c.args.calc.now) (run c.copy-width.new.self) (run c.add-height.new.self) _ _ width.goes c.add-height.ensures.goes
      (record {
        mem = width.cause.mem;
        coeff = λ f. width.cause.coeff (λ e o. ((sizes-some g.S.Steady.at e c.args.container.now c.args.at c.in-Some.inner.now (sym c.in-Some.ensures) (f e o)).0, tt));
        opens = width.cause.opens;
      })
      (λ f e o. (sizes-some g.S.Steady.at e c.args.container.now c.args.at c.in-Some.inner.now (sym c.in-Some.ensures) (f e (width.goes.closes e o))).1)
      c.add-height.ensures.cause;
}

pub returns-in-None : goal.returns-in-None
returns-in-None g c = record {
  goes = Goes-then _ _ _ c.zero-width.ensures.goes c.zero-height.ensures.goes;
  value = λ e o.
      let at = g.S.Steady.at in
      ap (λ x. sized at e x (at c.zero-height.result e)) (c.zero-width.ensures.value e (c.zero-height.ensures.goes.closes e o))
      ∙ (ap (sized at e (pos 0)) (c.zero-height.ensures.value e o)
      ∙ sym (size-none at e c.args.container.now c.args.at (sym c.in-None.ensures)));
  cause =
      let at = g.S.Steady.at in
      let run = g.S.Steady.run in
      let width = c.zero-width.ensures in
      Blames-then (run c.args.calc.now) (run c.zero-width.new.calc) (run c.zero-height.new.calc) _ _ width.goes c.zero-height.ensures.goes
      (record {
        mem = width.cause.mem;
        coeff = λ f. width.cause.coeff (λ e o. (sizes-none g.S.Steady.at e c.args.container.now c.args.at (sym c.in-None.ensures) (f e o)).1);
        opens = width.cause.opens;
      })
      (λ f e o. (sizes-none g.S.Steady.at e c.args.container.now c.args.at (sym c.in-None.ensures) (f e (width.goes.closes e o))).1)
      c.zero-height.ensures.cause;
}
