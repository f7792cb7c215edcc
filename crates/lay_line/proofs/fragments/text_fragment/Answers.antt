use Rattle.std.proofs.Common.{IsTrue, ◌-ℤ◌, ◌∷◌, [], ap, sym, subst, ◌∙◌, ◌^◌, arith}
use Rattle.std.proofs.lemmas.Grind.{common_steps}
use Rattle.viz_calc.specs.World.{Reading}
use Rattle.layout_semantics.specs.Blocks.{node_of}
use Rattle.lay_line.specs.Contexts.{context_at}
use Rattle.lay_line.specs.Fits.{FontFits, QuadFits}
use Rattle.lay_line.specs.LineFits.{BoxFits, OnLine, text_raised}
use Rattle.lay_line.specs.steps.Entries.{area_in}
use Rattle.lay_line.proofs.Chains.{start, next}
use Rattle.lay_line.proofs.OnLines.{text_base, area_fits, base_small}
use Rattle.lay_line.proofs.Placing.{Within}
use Rattle.lay_line.specs.steps.Entries.{text_in}
use Rattle.viz_calc.proofs.Runs.{Goes-then}
use Rattle.lay_line.proofs.fragments.text_fragment.Goals as goal

pub returns : goal.returns
unfolding context_at text_in
returns g c = record {
  goes = Goes-then _ _ _ (Goes-then _ _ _ (Goes-then _ _ _ c.text_shift-up.ensures.goes c.sub-baseline.ensures.goes) c.text_area-area.ensures.goes) c.plain_box.ensures.goes;
  value = grind (arith, common_steps);
  cause =
      let at = g.S.Steady.at in
      let run = g.S.Steady.run in
      let tree = c.args.container.now.tree.now in
      let b = c.args.at in
      let ctx = (λ (e : Reading). context_at at c.args.container.now e) in
      let base = (λ (e : Reading). at c.args.line.now.baseline e) in
      let left = (λ (e : Reading). at c.args.left.now e) in
      let right = (λ (e : Reading). at c.args.right.now e) in
      let node = c.node-node.ensures in
      let up = c.text_shift-up.ensures in
      let sub = c.sub-baseline.ensures in
      let area = c.text_area-area.ensures in
      let asks = (λ (e : Reading). BoxFits (ctx e) b × OnLine (base e ∷ left e ∷ right e ∷ [])) in
      let first = start {asks = asks} up.goes up.cause (λ f e o. (f e o).0.text_raise) in
      let raised = (λ (e : Reading) (o : IsTrue ((run c.text_shift-up.new.calc).is_open e)). ap (λ x. base e -ℤ x) (up.value e o)) in
      let second = next first sub.goes sub.cause (λ f e o. (base_small (subst (Within (2 ^ 99)) (sym (raised e o)) (text_base (ctx e) b (f e o).0 (base e) (f e o).1.0)), tt)) in
      let is = (λ (e : Reading) (o : IsTrue ((run c.sub-baseline.new.self).is_open e)). sub.value e o ∙ raised e (sub.goes.closes e o)) in
      let third = next second area.goes area.cause (λ f e o.
      subst (λ n. FontFits tree e.world n × QuadFits (area_in (ctx e) n (at c.sub-baseline.result e) (left e) (right e))) (sym node) (
        (f e o).0.font,
        subst (λ x. QuadFits (area_in (ctx e) (node_of tree b) x (left e) (right e))) (sym (is e o))
            (area_fits (ctx e) b (f e o).0 (base e -ℤ text_raised (ctx e) b) (left e) (right e) (text_base (ctx e) b (f e o).0 (base e) (f e o).1.0) (f e o).1.1),
      )) in
      (next third c.plain_box.ensures.goes c.plain_box.ensures.cause (λ f e o.
      let o1 = area.goes.closes e o in
      subst QuadFits (sym (area.value e o))
      (subst (λ n. QuadFits (area_in (ctx e) n (at c.sub-baseline.result e) (left e) (right e))) (sym node)
      (subst (λ x. QuadFits (area_in (ctx e) (node_of tree b) x (left e) (right e))) (sym (is e o1))
      (area_fits (ctx e) b (f e o).0 (base e -ℤ text_raised (ctx e) b) (left e) (right e) (text_base (ctx e) b (f e o).0 (base e) (f e o).1.0) (f e o).1.1))))).cause;
}
