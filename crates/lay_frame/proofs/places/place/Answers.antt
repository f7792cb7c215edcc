use Rattle.std.proofs.Common.{IsTrue, sym, subst, arith}
use Rattle.std.proofs.lemmas.Grind.{common_steps}
use Rattle.viz_calc.specs.World.{Reading}
use Rattle.viz_calc.specs.Run.{Blames}
use Rattle.viz_calc.specs.Renderings.{quad_at}
use Rattle.viz_calc.proofs.Runs.{Goes-then, Blames-then}
use Rattle.lay_width.specs.Readings.{widths_at}
use Rattle.lay_frame.specs.Fitting.{AroundFits, PlaceFits}
use Rattle.lay_frame.specs.Readings.{verticals_at, frame_at}
use Rattle.lay_frame.proofs.places.place.Goals as goal

pub returns : goal.returns
returns g c = record {
  goes = Goes-then _ _ _ c.border-border.ensures.goes c.around.ensures.goes;
  value = grind (arith, common_steps);
  cause =
      let at = g.S.Steady.at in
      let run = g.S.Steady.run in
      let f = c.args.shape.now in
      let more = (e : Reading) → IsTrue ((run c.args.calc.now).is_open e) → PlaceFits (frame_at at f e) (at c.args.content.now e) in
      let border = c.border-border.ensures in
      let first : Blames (run c.args.calc.now) (run c.border-border.new.calc) more = record {
        mem = border.cause.mem;
        coeff = λ fits. border.cause.coeff (λ e o. (fits e o).0);
        opens = border.cause.opens;
      } in
      Blames-then (run c.args.calc.now) (run c.border-border.new.calc) (run c.around.new.calc)
      ((e : Reading) → IsTrue ((run c.border-border.new.calc).is_open e) → AroundFits (widths_at at f.x e) (verticals_at at f.v e) (quad_at at c.border-border.result e))
      more border.goes c.around.ensures.goes first
      (λ fits e o. subst (AroundFits (widths_at at f.x e) (verticals_at at f.v e)) (sym (border.value e o)) (fits e (border.goes.closes e o)).1)
      c.around.ensures.cause;
}
