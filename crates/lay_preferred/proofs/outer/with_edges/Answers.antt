use Rattle.std.proofs.Common.{◌+ℤ◌, ℤ, [], ◌∷◌, IsTrue, sym, subst, arith}
use Rattle.std.proofs.lemmas.Grind.{common_steps}
use Rattle.viz_calc.specs.World.{Reading}
use Rattle.viz_calc.specs.State.{AllSmall}
use Rattle.viz_calc.specs.Run.{Blames}
use Rattle.viz_calc.proofs.Runs.{Goes-then, Blames-then}
use Rattle.lay_preferred.specs.Fitting.{AroundFits}
use Rattle.lay_preferred.specs.steps.Outer.{clamped_of, with_edges}
use Rattle.lay_preferred.proofs.outer.with_edges.Goals as goal

pub returns : goal.returns
unfolding with_edges
returns g c = record {
  goes = Goes-then _ _ _ (Goes-then _ _ _ c.clamped-clamped.ensures.goes c.edges-edges.ensures.goes) c.add.ensures.goes;
  value = grind (arith, common_steps);
  cause =
      let at = g.S.Steady.at in
      let run = g.S.Steady.run in
      let tree = c.args.tree.now in
      let b = c.args.at in
      let clamped = c.clamped-clamped.ensures in
      let edges = c.edges-edges.ensures in
      let r0 = run c.args.calc.now in
      let r1 = run c.clamped-clamped.new.calc in
      let r2 = run c.edges-edges.new.calc in
      let fits = (e : Reading) → IsTrue (r0.is_open e) → AroundFits tree e.world b (at c.args.width e) in
      let first : Blames r0 r1 fits = record { mem = clamped.cause.mem; coeff = λ f. clamped.cause.coeff (λ e o. (f e o).0); opens = clamped.cause.opens } in
      let second = Blames-then r0 r1 r2 _ fits clamped.goes edges.goes first (λ f e o. ((f e (clamped.goes.closes e o)).1).0) edges.cause in
      let to_edges = Goes-then r0 r1 r2 clamped.goes edges.goes in
      Blames-then r0 r2 (run c.add.new.self) _ fits to_edges c.add.ensures.goes second
      (λ f e o.
      subst (λ (x : ℤ). AllSmall ((x +ℤ at c.edges-edges.result e) ∷ [])) (sym (clamped.value e (edges.goes.closes e o)))
      (subst (λ (y : ℤ). AllSmall ((clamped_of tree e.world b (at c.args.width e) +ℤ y) ∷ [])) (sym (edges.value e o)) ((f e (to_edges.closes e o)).1).1))
      c.add.ensures.cause;
}
