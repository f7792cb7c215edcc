use Rattle.std.proofs.Common.{◌∷◌, [], sym, subst, arith}
use Rattle.std.proofs.lemmas.Grind.{common_steps}
use Rattle.viz_calc.specs.State.{IsSmall, AllSmall}
use Rattle.viz_calc.specs.World.{Reading}
use Rattle.lay_line.proofs.Chains.{start, next}
use Rattle.lay_line.specs.steps.Lining.{box_in}
use Rattle.lay_line.specs.Contexts.{context_at}
use Rattle.viz_calc.proofs.Runs.{Goes-then}
use Rattle.lay_line.proofs.line_content.line_box.Goals as goal

pub returns : goal.returns
unfolding context_at box_in
returns g c = record {
  goes = Goes-then _ _ _ (Goes-then _ _ _ (Goes-then _ _ _ (Goes-then _ _ _ c.copy-left.ensures.goes c.copy-top.ensures.goes) c.copy-right.ensures.goes) c.copy-bottom.ensures.goes) c.plain_box.ensures.goes;
  value = grind (arith, common_steps);
  cause =
      let at = g.S.Steady.at in
      let left = c.copy-left.ensures in
      let top = c.copy-top.ensures in
      let right = c.copy-right.ensures in
      let bottom = c.copy-bottom.ensures in
      let l = (λ (e : Reading). at c.args.room.now.left e) in
      let t = (λ (e : Reading). at c.args.top.now e) in
      let r = (λ (e : Reading). at c.args.room.now.right e) in
      let b = (λ (e : Reading). at c.args.bottom.now e) in
      let first = start {asks = λ (e : Reading). AllSmall (l e ∷ t e ∷ r e ∷ b e ∷ [])} left.goes left.cause (λ f e o. ((f e o).0, tt)) in
      let second = next first top.goes top.cause (λ f e o. ((f e o).1.0, tt)) in
      let third = next second right.goes right.cause (λ f e o. ((f e o).1.1.0, tt)) in
      let fourth = next third bottom.goes bottom.cause (λ f e o. ((f e o).1.1.1.0, tt)) in
      (next fourth c.plain_box.ensures.goes c.plain_box.ensures.cause (λ f e o.
      let o1 = bottom.goes.closes e o in
      let o2 = right.goes.closes e o1 in
      let o3 = top.goes.closes e o2 in
      let fits = f e o in (
        subst IsSmall (sym (left.value e o3)) fits.0,
        (subst IsSmall (sym (top.value e o2)) fits.1.0, (subst IsSmall (sym (right.value e o1)) fits.1.1.0, (subst IsSmall (sym (bottom.value e o)) fits.1.1.1.0, tt))),
      ))).cause;
}
