use Rattle.std.proofs.Common.{◌-ℤ◌, sym, subst, arith}
use Rattle.std.proofs.lemmas.Grind.{common_steps}
use Rattle.std.specs.Prelude.{ℤ, ⊤}
use Rattle.viz_base.specs.declared.layouts.Band.{Band}
use Rattle.viz_calc.specs.State.{IsSmall}
use Rattle.viz_calc.proofs.Runs.{Goes-then, Blames-then}
use Rattle.lay_float.specs.Readings.{boxes_at}
use Rattle.lay_line.specs.Contexts.{context_at}
use Rattle.lay_line.specs.steps.Words.{room_in}
use Rattle.lay_line.proofs.Placing.{room_small}
use Rattle.lay_line.proofs.meeting.fits.Goals as goal

pub returns : goal.returns
unfolding context_at room_in
returns g c = record {
  goes = Goes-then _ _ _ (Goes-then _ _ _ c.band-room.ensures.goes c.band_width-inline_size.ensures.goes) c.le.ensures.goes;
  value = grind (arith, common_steps);
  cause =
      let at = g.S.Steady.at in
      let run = g.S.Steady.run in
      let room = c.band-room.ensures in
      let inline_size = c.band_width-inline_size.ensures in
      let second = Blames-then (run c.args.calc.now) (run c.band-room.new.calc) (run c.band_width-inline_size.new.calc) _ _ room.goes inline_size.goes room.cause
      (λ f e o. (
        subst (λ (b : Band ℤ). IsSmall (b.right -ℤ b.left)) (sym (room.value e o))
            (room_small (context_at at c.args.container.now e) (boxes_at at c.args.floats.now e) (at c.args.top.now e) (at c.args.tall.now e) (f e (room.goes.closes e o))),
        tt,
      ))
      inline_size.cause in
      Blames-then (run c.args.calc.now) (run c.band_width-inline_size.new.calc) (run c.le.new.self) ⊤ _ (Goes-then _ _ _ room.goes inline_size.goes) c.le.ensures.goes second (λ f. tt) c.le.ensures.cause;
}
