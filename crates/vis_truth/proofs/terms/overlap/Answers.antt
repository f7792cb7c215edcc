use Rattle.std.proofs.Common.{Some, None, refl, ◌∙◌, arith}
use Rattle.std.proofs.lemmas.Grind.{common_steps}
use Rattle.logic_semantics.specs.Scenes.{named}
use Rattle.vis_truth.specs.Names.{places_of}
use Rattle.vis_truth.proofs.Edges.{overlap-named}
use Rattle.vis_truth.proofs.terms.overlap.Goals as goal

pub returns-in-Some-Some : goal.returns-in-Some-Some
returns-in-Some-Some g c = record {
  goes = grind (arith, common_steps);
  value = λ e o.
      let found = c.in-Some-Some in
      c.quads_overlap.ensures.value e o
      ∙ overlap-named g.S.Steady.at c.args.r.now e (places_of c.args.names.now) c.args.a c.args.b (Some found.a.now) (Some found.b.now) found.ensures found.ensures';
  cause = grind (arith, common_steps);
}

pub returns-in_default : goal.returns-in_default
returns-in_default g c = record {
  goes = grind (arith, common_steps);
  value = λ e o.
      overlap-named g.S.Steady.at c.args.r.now e (places_of c.args.names.now) c.args.a c.args.b (Some c.in_default.field-0-0.now) None c.in_default.ensures c.in_default.ensures';
  cause = grind (arith, common_steps);
}

pub returns-in_default-2 : goal.returns-in_default-2
returns-in_default-2 g c = record {
  goes = grind (arith, common_steps);
  value = λ e o.
      let names = places_of c.args.names.now in
      overlap-named g.S.Steady.at c.args.r.now e names c.args.a c.args.b None (named c.args.r.now.boxes names c.args.b) c.in_default.ensures refl;
  cause = grind (arith, common_steps);
}
