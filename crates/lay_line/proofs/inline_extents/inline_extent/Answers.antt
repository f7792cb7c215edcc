use Rattle.std.proofs.Common.{IsTrue, ◌+ℤ◌, ◌-ℤ◌, ap, sym, subst, ◌∙◌, arith}
use Rattle.std.proofs.lemmas.Grind.{common_steps}
use Rattle.viz_calc.specs.State.{IsSmall}
use Rattle.viz_calc.specs.World.{Reading}
use Rattle.layout_semantics.specs.Fonts.{ascent, line_height}
use Rattle.lay_line.specs.Fits.{InlineFits}
use Rattle.lay_line.proofs.Chains.{start, next}
use Rattle.viz_calc.proofs.Runs.{Goes-then}
use Rattle.lay_line.proofs.inline_extents.inline_extent.Goals as goal

pub returns : goal.returns
unfolding InlineFits
returns g c = record {
  goes = Goes-then _ _ _ (Goes-then _ _ _ (Goes-then _ _ _ (Goes-then _ _ _ c.ascent-ascent.ensures.goes c.half_leading-half.ensures.goes) c.add-above.ensures.goes) c.line_height-whole.ensures.goes) c.sub-below.ensures.goes;
  value = grind (arith, common_steps);
  cause =
      let at = g.S.Steady.at in
      let tree = c.args.tree.now in
      let node = c.args.node in
      let up = c.ascent-ascent.ensures in
      let lead = c.half_leading-half.ensures in
      let sum = c.add-above.ensures in
      let whole = c.line_height-whole.ensures in
      let first = start {asks = λ (e : Reading). InlineFits tree e.world node} up.goes up.cause (λ f e o. (f e o).0.1.0) in
      let second = next first lead.goes lead.cause (λ f e o. ((f e o).0, ((f e o).1.0, tt))) in
      let above = (λ (e : Reading) (o : IsTrue ((g.S.Steady.run c.half_leading-half.new.calc).is_open e)).
      ap (λ x. x +ℤ at c.half_leading-half.result e) (up.value e (lead.goes.closes e o))
      ∙ ap (λ x. ascent tree e.world node +ℤ x) (lead.value e o)) in
      let third = next second sum.goes sum.cause (λ f e o. (subst IsSmall (sym (above e o)) (f e o).1.1.0, tt)) in
      let fourth = next third whole.goes whole.cause (λ f e o. (f e o).0.0) in
      (next fourth c.sub-below.ensures.goes c.sub-below.ensures.cause (λ f e o.
      let o1 = whole.goes.closes e o in
      let o2 = sum.goes.closes e o1 in (
        subst IsSmall (sym (ap (λ x. x -ℤ at c.add-above.result e) (whole.value e o)
            ∙ ap (λ x. line_height tree e.world node -ℤ x) (sum.value e o1 ∙ above e o2))) (f e o).1.1.1.0,
        tt,
      ))).cause;
}
