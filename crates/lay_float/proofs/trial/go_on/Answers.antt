use Rattle.std.proofs.Common.{ℤ, IsTrue, List, [], ◌∷◌, ap, sym, subst, ◌∙◌}
use Rattle.std.specs.Option.{option_to_list}
use Rattle.std.specs.Prelude.{int_lt}
use Rattle.viz_calc.specs.World.{Reading}
use Rattle.viz_calc.proofs.Runs.{Goes-then, BlamesButMem-then}
use Rattle.layout_semantics.specs.Floats.{FloatBox}
use Rattle.layout_laws.proofs.Members.{from_filter}
use Rattle.lay_float.specs.Limits.{AreHalf}
use Rattle.lay_float.specs.Readings.{boxes_at, floats_at}
use Rattle.lay_float.specs.steps.Lent.{lent_at}
use Rattle.lay_float.specs.TrialReadings.{coming_at}
use Rattle.lay_float.specs.Trials.{reaching, tried}
use Rattle.lay_float.proofs.trial.go_on.Goals as goal

fewer-half : (level : ℤ) (floats : List FloatBox) (numbers : List ℤ) → AreHalf floats numbers → AreHalf (reaching level floats) numbers
fewer-half level floats numbers h = record { edges = λ f i. h.edges f (from_filter (λ (f : FloatBox). int_lt level f.box.bottom) floats f i).0; numbers = h.numbers }

pub returns : goal.returns
returns g c = record {
  goes = Goes-then _ _ _ c.still_open-near.ensures.goes c.try_one.ensures.goes;
  value = λ e o.
      let at = g.S.Steady.at in
      let open_near = c.still_open-near.ensures.value e (c.try_one.ensures.goes.closes e o) in
      c.try_one.ensures.value e o
      ∙ ap (λ l. tried (coming_at at c.args.f.now e) (floats_at at c.args.before.all e) l (lent_at at c.args.least e) (at c.args.before.level e))
      (open_near ∙ ap (λ l. reaching (at c.args.before.level e) (boxes_at at l e)) c.as_slice.ensures);
  cause =
      let at = g.S.Steady.at in
      let run = g.S.Steady.run in
      let fs = (λ (e : Reading). floats_at at c.args.before.near e) in
      let level = (λ (e : Reading). at c.args.before.level e) in
      let f = (λ (e : Reading). coming_at at c.args.f.now e) in
      let numbers = (λ (e : Reading). (f e).size.width ∷ (f e).size.height ∷ (f e).cb.left ∷ (f e).cb.right ∷ level e ∷ option_to_list (lent_at at c.args.least e)) in
      let some = c.still_open-near.ensures in
      let last = c.try_one.ensures in
      BlamesButMem-then (run c.args.calc.now) (run c.still_open-near.new.calc) (run c.try_one.new.calc) _ ((e : Reading) → IsTrue ((run c.args.calc.now).is_open e) → AreHalf (fs e) (numbers e)) some.goes last.goes
      (record {
        coeff = λ h. some.cause.coeff (λ e o. subst (λ l. AreHalf (boxes_at at l e) []) (sym c.as_slice.ensures) (record { edges = (h e o).edges; numbers = tt }));
        opens = some.cause.opens;
      })
      (λ h e o. subst (λ l. AreHalf l (numbers e)) (sym (some.value e o ∙ ap (λ l. reaching (level e) (boxes_at at l e)) c.as_slice.ensures))
      (fewer-half (level e) (fs e) (numbers e) (h e (some.goes.closes e o)))) last.cause;
}
