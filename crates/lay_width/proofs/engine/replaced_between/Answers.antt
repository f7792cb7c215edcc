use Rattle.std.proofs.Common.{IsTrue, ap, ◌∙◌, sym, subst}
use Rattle.viz_calc.specs.World.{Reading}
use Rattle.viz_calc.proofs.Blamed.{Blames-given}
use Rattle.viz_calc.proofs.Runs.{Goes-then, Blames-then}
use Rattle.layout_semantics.specs.Lengths.{margins}
use Rattle.layout_semantics.specs.Horizontal.{is_auto}
use Rattle.lay_width.specs.Readings.{widths_at}
use Rattle.lay_width.specs.Fitting.{ReplacedBetweenFits, FixedBlockFits}
use Rattle.lay_width.specs.steps.Terms.{around, fixed_around}
use Rattle.lay_width.proofs.engine.replaced_between.Goals as goal

pub returns : goal.returns
returns g c = record {
  goes = Goes-then _ _ _ c.width-width.ensures.goes c.fixed_block.ensures.goes;
  value = λ e o.
      let at = g.S.Steady.at in
      let margin = margins c.args.tree.now c.args.b in
      c.fixed_block.ensures.value e o
      ∙ ap (λ x. fixed_around (is_auto margin.left) (is_auto margin.right) (around (widths_at at c.args.edges e) x) (at c.args.cb.now e)) (c.width-width.ensures.value e (c.fixed_block.ensures.goes.closes e o));
  cause =
      let at = g.S.Steady.at in
      let width = c.width-width.ensures in
      let more = (e : Reading) → IsTrue ((g.S.Steady.run c.args.calc.now).is_open e) → ReplacedBetweenFits c.args.tree.now e.world c.args.b (at c.args.cb.now e) (widths_at at c.args.edges e) in
      Blames-then _ _ _ _ more width.goes c.fixed_block.ensures.goes
      (Blames-given _ _ _ more (λ f e o. (f e o).0) width.cause)
      (λ f e o. subst (λ x. FixedBlockFits c.args.tree.now c.args.b (widths_at at c.args.edges e) (at c.args.cb.now e) x) (sym (width.value e o)) (f e (width.goes.closes e o)).1)
      c.fixed_block.ensures.cause;
}
