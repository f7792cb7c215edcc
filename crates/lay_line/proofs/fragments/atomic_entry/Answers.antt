use Rattle.std.proofs.Common.{IsTrue, ◌-ℤ◌, ◌∷◌, [], ap, sym, subst, ◌∙◌, arith}
use Rattle.std.proofs.lemmas.Grind.{common_steps}
use Rattle.viz_calc.specs.State.{IsSmall, AllSmall}
use Rattle.viz_calc.specs.World.{Reading}
use Rattle.layout_semantics.specs.LineHeights.{LineExtent}
use Rattle.lay_line.specs.Contexts.{context_at}
use Rattle.lay_line.specs.Fits.{ShiftFits}
use Rattle.lay_line.specs.LineFits.{BoxFits, OnLine}
use Rattle.lay_line.specs.steps.Words.{own_reach, raised}
use Rattle.lay_line.proofs.Chains.{start, next}
use Rattle.lay_line.proofs.OnLines.{own_of, shift_of, atomic_fits}
use Rattle.lay_line.specs.steps.Entries.{atomic_in}
use Rattle.viz_calc.proofs.Runs.{Goes-then}
use Rattle.lay_line.proofs.fragments.atomic_entry.Goals as goal

pub returns : goal.returns
unfolding atomic_in
returns g c = record {
  goes = Goes-then _ _ _ (Goes-then _ _ _ (Goes-then _ _ _ (Goes-then _ _ _ c.box_extent-extent.ensures.goes c.shift-up.ensures.goes) c.sub-baseline.ensures.goes) c.copy-x.ensures.goes) c.sub-y.ensures.goes;
  value = grind (arith, common_steps);
  cause =
      let at = g.S.Steady.at in
      let run = g.S.Steady.run in
      let b = c.args.at in
      let ctx = (λ (e : Reading). context_at at c.args.container.now e) in
      let base = (λ (e : Reading). at c.args.line.now.baseline e) in
      let left = (λ (e : Reading). at c.args.left.now e) in
      let own = (λ (e : Reading). own_reach (ctx e) b) in
      let extent = c.box_extent-extent.ensures in
      let up = c.shift-up.ensures in
      let sub = c.sub-baseline.ensures in
      let copied = c.copy-x.ensures in
      let asks = (λ (e : Reading). BoxFits (ctx e) b × OnLine (base e ∷ left e ∷ [])) in
      let fits : (e : Reading) → asks e → AllSmall ((base e -ℤ raised (ctx e) b (own e)) ∷ left e ∷ ((base e -ℤ raised (ctx e) b (own e)) -ℤ (own e).above) ∷ []) =
      λ e p. atomic_fits (ctx e) b p.0 (base e) (left e) p.1 in
      let first = start {asks = asks} extent.goes extent.cause (λ f e o. own_of (ctx e) b (f e o).0.reach) in
      let second = next first up.goes up.cause (λ f e o. subst (λ (x : LineExtent). ShiftFits (ctx e) b x) (sym (extent.value e o)) (shift_of (ctx e) b (f e o).0.reach)) in
      let raised_is = (λ (e : Reading) (o : IsTrue ((run c.shift-up.new.calc).is_open e)). ap (λ x. base e -ℤ x) (up.value e o ∙ ap (λ (x : LineExtent). raised (ctx e) b x) (extent.value e (up.goes.closes e o)))) in
      let third = next second sub.goes sub.cause (λ f e o. (subst IsSmall (sym (raised_is e o)) (fits e (f e o)).0, tt)) in
      let fourth = next third copied.goes copied.cause (λ f e o. ((fits e (f e o)).1.0, tt)) in
      (next fourth c.sub-y.ensures.goes c.sub-y.ensures.cause (λ f e o.
      let o1 = copied.goes.closes e o in
      let o2 = sub.goes.closes e o1 in
      let above = ap (λ (x : LineExtent). x.above) (extent.value e (up.goes.closes e o2)) in
      (subst IsSmall (sym (ap (λ x. x -ℤ at c.box_extent-extent.result.above e) (sub.value e o1 ∙ raised_is e o2) ∙ ap (λ x. (base e -ℤ raised (ctx e) b (own e)) -ℤ x) above)) (fits e (f e o)).1.1.0, tt))).cause;
}
