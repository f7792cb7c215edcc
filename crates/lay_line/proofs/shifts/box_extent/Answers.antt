use Rattle.std.proofs.Common.{sym, ap, ◌∙◌}
use Rattle.layout_semantics.specs.LineHeights.{LineExtent, inline_extent}
use Rattle.std.specs.Prelude.{ℤ}
use Rattle.lay_line.proofs.Tables.{reach-some, reach-none}
use Rattle.lay_line.proofs.Fitting.{own-some, own-none}
use Rattle.lay_line.specs.Fits.{InlineFits}
use Rattle.viz_calc.proofs.Runs.{Goes-then, Blames-then}
use Rattle.std.proofs.Common.{subst}
use Rattle.lay_line.proofs.shifts.box_extent.Goals as goal

abbrev made : ℤ → ℤ → LineExtent
made x y = record { above = x; below = y }

pub returns-in-Some : goal.returns-in-Some
returns-in-Some g c = record {
  goes = Goes-then _ _ _ c.copy-above.ensures.goes c.copy-below.ensures.goes;
  value = λ e o.
      let at = g.S.Steady.at in
      ap (λ x. made x (at c.copy-below.result e)) (c.copy-above.ensures.value e (c.copy-below.ensures.goes.closes e o))
      ∙ (ap (made (at c.in-Some.inner.now.above e)) (c.copy-below.ensures.value e o)
      ∙ sym (reach-some at e c.args.container.now c.args.at c.in-Some.inner.now (sym c.in-Some.ensures)));
  cause =
      let at = g.S.Steady.at in
      let run = g.S.Steady.run in
      let above = c.copy-above.ensures in
      Blames-then (run c.args.calc.now) (run c.copy-above.new.self) (run c.copy-below.new.self) _ _ above.goes c.copy-below.ensures.goes
      (record {
        mem = above.cause.mem;
        coeff = λ f. above.cause.coeff (λ e o. ((own-some g.S.Steady.at e c.args.container.now c.args.at c.in-Some.inner.now (sym c.in-Some.ensures) (f e o)).0, tt));
        opens = above.cause.opens;
      })
      (λ f e o. (own-some g.S.Steady.at e c.args.container.now c.args.at c.in-Some.inner.now (sym c.in-Some.ensures) (f e (above.goes.closes e o))).1)
      c.copy-below.ensures.cause;
}

pub returns-in-None : goal.returns-in-None
returns-in-None g c = record {
  goes = c.inline_extent.ensures.goes;
  value = λ e o.
      c.inline_extent.ensures.value e o
      ∙ (ap (λ n. inline_extent c.args.container.now.tree.now e.world n) c.node.ensures
      ∙ sym (reach-none g.S.Steady.at e c.args.container.now c.args.at (sym c.in-None.ensures)));
  cause =
      let one = c.inline_extent.ensures.cause in
      record { mem = one.mem; coeff = λ f. one.coeff (λ e o. subst (λ n. InlineFits c.args.container.now.tree.now e.world n) (sym c.node.ensures) (own-none g.S.Steady.at e c.args.container.now c.args.at (sym c.in-None.ensures) (f e o))); opens = one.opens };
}
