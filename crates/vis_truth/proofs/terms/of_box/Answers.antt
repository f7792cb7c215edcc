use Rattle.std.proofs.Common.{◌*ℤ◌, [], ◌∷◌, ap, sym, ◌∙◌, subst, arith}
use Rattle.std.proofs.lemmas.Grind.{common_steps}
use Rattle.std.proofs.Math.IntN.{*ℤ-zero}
use Rattle.viz_calc.specs.State.{AllSmall}
use Rattle.viz_calc.specs.Run.{Fits}
use Rattle.logic_semantics.specs.Terms.{face_of, edge_value}
use Rattle.viz_base.specs.declared.formulas.Edge.TheVariants as of_edge
use Rattle.vis_truth.specs.Names.{places_of}
use Rattle.vis_truth.specs.Scenes.{scene_at}
use Rattle.vis_truth.proofs.Edges.{edge-some, edge-none}
use Rattle.viz_calc.proofs.Blamed.{Blames-given}
use Rattle.vis_truth.proofs.terms.of_box.Goals as goal

pub returns-in-Some : goal.returns-in-Some
returns-in-Some g c = record {
  goes = grind (arith, common_steps);
  value = λ e o.
      let is = edge-some g.S.Steady.at c.args.r.now e (places_of c.args.names.now) c.args.name c.args.ring c.args.face c.in-Some.b.now c.in-Some.ensures in
      let number = c.face_of.ensures ∙ ap (face_of c.args.face) c.ring_of.ensures in
      c.multiple.ensures.value e o ∙ ap (λ z. c.args.s.now.times *ℤ z) (ap (λ n. g.S.Steady.at n e) number ∙ sym is);
  cause =
      let number = c.face_of.ensures ∙ ap (face_of c.args.face) c.ring_of.ensures in
      Blames-given _ _ _
      (Fits (g.S.Steady.run c.args.calc.now) (λ e. (c.args.s.now.times *ℤ edge_value (scene_at g.S.Steady.at c.args.r.now e) (places_of c.args.names.now) (of_edge.Name c.args.name c.args.ring c.args.face)) ∷ []))
      (λ f e o.
      let is = edge-some g.S.Steady.at c.args.r.now e (places_of c.args.names.now) c.args.name c.args.ring c.args.face c.in-Some.b.now c.in-Some.ensures in
      subst (λ z. AllSmall ((c.args.s.now.times *ℤ z) ∷ [])) (is ∙ ap (λ n. g.S.Steady.at n e) (sym number)) (f e o))
      c.multiple.ensures.cause;
}

pub returns-in-None : goal.returns-in-None
returns-in-None g c = record {
  goes = grind (arith, common_steps);
  value = λ e o.
      let is = edge-none g.S.Steady.at c.args.r.now e (places_of c.args.names.now) c.args.name c.args.ring c.args.face c.in-None.ensures in
      c.zero.ensures.value e o ∙ sym (ap (λ z. c.args.s.now.times *ℤ z) is ∙ *ℤ-zero c.args.s.now.times);
  cause = grind (arith, common_steps);
}
