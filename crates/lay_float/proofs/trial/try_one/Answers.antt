use Rattle.std.proofs.Common.{ℤ, ◌+ℤ◌, IsTrue, [], ◌∷◌, ap, sym, subst, ◌∙◌, arith}
use Rattle.std.proofs.lemmas.Grind.{common_steps}
use Rattle.std.specs.Option.{option_to_list}
use Rattle.viz_base.specs.declared.layouts.Spot.{Spot}
use Rattle.viz_calc.specs.State.{AllSmall}
use Rattle.viz_calc.specs.World.{Reading}
use Rattle.viz_calc.proofs.Runs.{Goes-then, BlamesButMem-then}
use Rattle.layout_semantics.specs.Floats.{float_top, float_spot}
use Rattle.lay_float.specs.Limits.{AreHalf}
use Rattle.lay_float.specs.Readings.{boxes_at, floats_at}
use Rattle.lay_float.specs.steps.Lent.{lent_at}
use Rattle.lay_float.proofs.Rooms.{top_half}
use Rattle.lay_float.proofs.Spots.{placed_small}
use Rattle.lay_float.specs.TrialReadings.{coming_at}
use Rattle.lay_float.proofs.trial.try_one.Goals as goal

pub returns : goal.returns
returns g c = record {
  goes = grind (arith, common_steps);
  value = grind (arith, common_steps);
  cause =
      let at = g.S.Steady.at in
      let run = g.S.Steady.run in
      let fs = (λ (e : Reading). floats_at at c.args.near e) in
      let least = (λ (e : Reading). lent_at at c.args.least e) in
      let y = (λ (e : Reading). at c.args.y.now e) in
      let f = (λ (e : Reading). coming_at at c.args.f.now e) in
      let asks = (λ (e : Reading). AreHalf (fs e) ((f e).size.width ∷ (f e).size.height ∷ (f e).cb.left ∷ (f e).cb.right ∷ y e ∷ option_to_list (least e))) in
      let spot = c.spot_among-spot.ensures in
      let one = c.add.ensures in
      let two = c.add-2.ensures in
      let start = run c.args.calc.now in
      let found = run c.spot_among-spot.new.calc in
      let small = (λ (h : (e : Reading) → IsTrue (start.is_open e) → asks e) (e : Reading) (o : IsTrue (found.is_open e)).
      let a = h e (spot.goes.closes e o) in
      let half = top_half (f e).clear (fs e) (least e) (y e) (record { edges = a.edges; numbers = a.numbers.1.1.1.1 }) in
      subst (λ (s : Spot ℤ). AllSmall (s.x ∷ s.y ∷ (s.x +ℤ (f e).size.width) ∷ (s.y +ℤ (f e).size.height) ∷ []))
      (sym (spot.value e o ∙ ap (λ l. float_spot (f e) (boxes_at at l e) (least e) (y e)) c.as_slice.ensures))
      (placed_small (fs e) (f e).side (f e).size (f e).cb (float_top (f e).clear (fs e) (least e) (y e))
      (record { edges = a.edges; numbers = (a.numbers.0, (a.numbers.1.0, (a.numbers.1.1.0, (a.numbers.1.1.1.0, (half, tt))))) }))) in
      let goes = Goes-then _ _ _ spot.goes one.goes in
      let first = BlamesButMem-then start found (run c.add.new.calc) _ _ spot.goes one.goes
      (record {
        coeff = λ h. spot.cause.coeff (λ e o.
            subst (λ l. AreHalf (boxes_at at l e) ((f e).size.width ∷ (f e).cb.left ∷ (f e).cb.right ∷ y e ∷ option_to_list (least e))) (sym c.as_slice.ensures)
            (let a = h e o in record { edges = a.edges; numbers = (a.numbers.0, a.numbers.1.1) }));
        opens = spot.cause.opens;
      })
      small one.cause in
      BlamesButMem-then start (run c.add.new.calc) (run c.add-2.new.calc) _ _ goes two.goes first
      (λ h e o. small h e (one.goes.closes e o)) two.cause;
}
