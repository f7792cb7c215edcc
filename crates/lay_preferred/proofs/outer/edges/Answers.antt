use Rattle.std.proofs.Common.{ℤ, sym, subst, arith}
use Rattle.std.proofs.lemmas.Grind.{common_steps}
use Rattle.viz_base.specs.declared.lengths.Length.{Length}
use Rattle.viz_base.specs.declared.lengths.Sides.{Sides}
use Rattle.viz_calc.proofs.Runs.{Goes-then, Blames-then}
use Rattle.layout_semantics.specs.Lengths.{margins, borders, paddings}
use Rattle.lay_preferred.specs.Fitting.{SideFits}
use Rattle.lay_preferred.specs.steps.Outer.{edge}
use Rattle.lay_preferred.specs.steps.Outer.{edges_of}
use Rattle.lay_preferred.specs.steps.Outer.{end_of}
use Rattle.lay_preferred.proofs.outer.edges.Goals as goal

pub returns : goal.returns
unfolding edges_of end_of edge
returns g c = record {
  goes = Goes-then _ _ _ c.end_width-right.ensures.goes c.side_before.ensures.goes;
  value = grind (arith, common_steps);
  cause =
      let at = g.S.Steady.at in
      let run = g.S.Steady.run in
      let tree = c.args.tree.now in
      let b = c.args.at in
      let margin = c.margins-margin in
      let border = c.borders-border in
      let padding = c.paddings-padding in
      let right = c.end_width-right.ensures in
      Blames-then (run c.args.calc.now) (run c.end_width-right.new.calc) (run c.side_before.new.calc) _ _ right.goes c.side_before.ensures.goes
      (record { mem = right.cause.mem; coeff = λ f. right.cause.coeff (λ e o. (f e o).0); opens = right.cause.opens })
      (λ f e o.
      subst (λ (m : Sides Length). SideFits tree e.world m.left border.result.left padding.result.left (at c.end_width-right.result e)) (sym margin.ensures)
      (subst (λ (s : Sides Length). SideFits tree e.world (margins tree b).left s.left padding.result.left (at c.end_width-right.result e)) (sym border.ensures)
      (subst (λ (p : Sides Length). SideFits tree e.world (margins tree b).left (borders tree b).left p.left (at c.end_width-right.result e)) (sym padding.ensures)
      (subst (λ (x : ℤ). SideFits tree e.world (margins tree b).left (borders tree b).left (paddings tree b).left x) (sym (right.value e o)) (f e (right.goes.closes e o)).1))))
      c.side_before.ensures.cause;
}
