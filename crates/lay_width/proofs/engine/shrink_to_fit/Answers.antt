use Rattle.std.proofs.Common.{ap, ◌∙◌, arith}
use Rattle.std.proofs.lemmas.Grind.{common_steps}
use Rattle.std.specs.Prelude.{int_le}
use Rattle.std.specs.Int.{int_min}
use Rattle.viz_calc.specs.Run.{Fits}
use Rattle.viz_calc.proofs.Blamed.{Blames-given}
use Rattle.viz_calc.proofs.Runs.{Goes-then, Blames-then}
use Rattle.lay_width.specs.Readings.{preferred_at}
use Rattle.lay_width.specs.Fitting.{fit_way}
use Rattle.lay_width.proofs.ClampedTerms.{fit-most, fit-room, fit-least}
use Rattle.lay_width.proofs.engine.shrink_to_fit.Goals as goal

pub returns-then-le : goal.returns-then-le
returns-then-le g c = record {
  goes = Goes-then _ _ _ c.copy-most.ensures.goes c.if-le.ensures.goes;
  value = λ e o.
      let at = g.S.Steady.at in
      let room = at c.args.room e in
      let most = c.copy-most.ensures.value e (c.if-le.ensures.goes.closes e o) in
      most ∙ fit-most (preferred_at at c.args.preferred.now e) room (c.if-le.ensures.value e o ∙ ap (λ m. int_le m room) most);
  cause = grind (arith, common_steps);
}

pub returns-then-le-2 : goal.returns-then-le-2
returns-then-le-2 g c = record {
  goes = Goes-then _ _ _ (Goes-then _ _ _ c.copy-most.ensures.goes c.if-le.ensures.goes) c.if-le-2.ensures.goes;
  value = λ e o.
      let at = g.S.Steady.at in
      let room = at c.args.room e in
      let asked = c.if-le-2.ensures.goes.closes e o in
      let most = c.copy-most.ensures.value e (c.if-le.ensures.goes.closes e asked) in
      fit-room (preferred_at at c.args.preferred.now e) room (c.if-le.ensures.value e asked ∙ ap (λ m. int_le m room) most) (c.if-le-2.ensures.value e o);
  cause = grind (arith, common_steps);
}

pub returns : goal.returns
returns g c = record {
  goes = Goes-then _ _ _ (Goes-then _ _ _ (Goes-then _ _ _ (Goes-then _ _ _ c.copy-most.ensures.goes c.if-le.ensures.goes) c.if-le-2.ensures.goes) c.copy-least.ensures.goes) c.lesser.ensures.goes;
  value = λ e o.
      let at = g.S.Steady.at in
      let room = at c.args.room e in
      let copied = c.lesser.ensures.goes.closes e o in
      let asked-2 = c.copy-least.ensures.goes.closes e copied in
      let asked = c.if-le-2.ensures.goes.closes e asked-2 in
      let most = c.copy-most.ensures.value e (c.if-le.ensures.goes.closes e asked) in
      c.lesser.ensures.value e o
      ∙ ap (λ l. int_min l (at c.copy-most.result e)) (c.copy-least.ensures.value e copied)
      ∙ ap (int_min (at c.args.preferred.now.least e)) most
      ∙ fit-least (preferred_at at c.args.preferred.now e) room (c.if-le.ensures.value e asked ∙ ap (λ m. int_le m room) most) (c.if-le-2.ensures.value e asked-2);
  cause =
      let at = g.S.Steady.at in
      let run = g.S.Steady.run in
      let more = Fits (run c.args.calc.now) (λ e. fit_way (preferred_at at c.args.preferred.now e)) in
      let to-le = Goes-then _ _ _ c.copy-most.ensures.goes c.if-le.ensures.goes in
      let to-le-2 = Goes-then _ _ _ to-le c.if-le-2.ensures.goes in
      let first = Blames-given _ _ _ more (λ f e o. ((f e o).0, tt)) c.copy-most.ensures.cause in
      let second = Blames-then _ _ _ _ more c.copy-most.ensures.goes c.if-le.ensures.goes first (λ f. tt) c.if-le.ensures.cause in
      let third = Blames-then _ _ _ _ more to-le c.if-le-2.ensures.goes second (λ f. tt) c.if-le-2.ensures.cause in
      let fourth = Blames-then _ _ _ _ more to-le-2 c.copy-least.ensures.goes third (λ f e o. ((f e (to-le-2.closes e o)).1.0, tt)) c.copy-least.ensures.cause in
      Blames-then _ _ _ _ more (Goes-then _ _ _ to-le-2 c.copy-least.ensures.goes) c.lesser.ensures.goes fourth (λ f e o. tt) c.lesser.ensures.cause;
}
