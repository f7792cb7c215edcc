use Rattle.std.proofs.Common.{◌≡◌, ℤ, pos, [], ◌∷◌, IsTrue, sym, subst, ap, ◌∙◌, arith}
use Rattle.std.proofs.lemmas.Grind.{common_steps}
use Rattle.viz_base.specs.declared.lengths.Length.{Length}
use Rattle.viz_calc.specs.World.{Reading}
use Rattle.viz_calc.specs.State.{AllSmall}
use Rattle.viz_calc.specs.Run.{Blames}
use Rattle.viz_calc.proofs.Runs.{Goes-then, Blames-then}
use Rattle.lay_width.specs.Fitting.{own_width_of, UsedFits}
use Rattle.lay_preferred.specs.Fitting.{AroundFits, GivenFits}
use Rattle.lay_preferred.specs.steps.Outer.{edge, with_edges}
use Rattle.lay_preferred.specs.steps.Outer.{given}
use Rattle.lay_preferred.proofs.outer.given.Goals as goal

pub returns : goal.returns
unfolding given
returns g c = record {
  goes = Goes-then _ _ _ (Goes-then _ _ _ c.absolute_part-width.ensures.goes c.with_edges-least.ensures.goes) c.copy-most.ensures.goes;
  value = grind (arith, common_steps);
  cause =
      let at = g.S.Steady.at in
      let run = g.S.Steady.run in
      let tree = c.args.tree.now in
      let b = c.args.at in
      let width = c.absolute_part-width.ensures in
      let least = c.with_edges-least.ensures in
      let r0 = run c.args.calc.now in
      let r1 = run c.absolute_part-width.new.calc in
      let r2 = run c.with_edges-least.new.calc in
      let fits = (e : Reading) → IsTrue (r0.is_open e) → GivenFits tree e.world b in
      let same : (e : Reading) → IsTrue (r1.is_open e) → at c.absolute_part-width.result e ≡ edge tree e.world (own_width_of tree b) =
      λ e o. width.value e o ∙ ap (edge tree e.world) c.own_width.ensures in
      let first : Blames r0 r1 fits = record {
        mem = width.cause.mem;
        coeff = λ f. width.cause.coeff (λ e o. subst (λ (l : Length). UsedFits tree e.world l (pos 0)) (sym c.own_width.ensures) (f e o).0);
        opens = width.cause.opens;
      } in
      let second = Blames-then r0 r1 r2 _ fits width.goes least.goes first
      (λ f e o. subst (λ (x : ℤ). AroundFits tree e.world b x) (sym (same e o)) (f e (width.goes.closes e o)).1) least.cause in
      let to_least = Goes-then r0 r1 r2 width.goes least.goes in
      Blames-then r0 r2 (run c.copy-most.new.self) _ fits to_least c.copy-most.ensures.goes second
      (λ f e o.
      subst (λ (x : ℤ). AllSmall (x ∷ [])) (sym (least.value e o ∙ ap (with_edges tree e.world b) (same e (least.goes.closes e o)))) (((f e (to_least.closes e o)).1).1).1)
      c.copy-most.ensures.cause;
}
