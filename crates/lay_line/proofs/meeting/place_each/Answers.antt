use Rattle.std.proofs.lemmas.List.{drop_more}
use Rattle.std.proofs.Common.{drop, get_or, sym, subst, arith, ◌+◌}
use Rattle.std.proofs.lemmas.Grind.{common_steps}
use Rattle.std.specs.Prelude.{ℕ, List}
use Rattle.viz_calc.proofs.Runs.{Goes-then, BlamesButMem-then}
use Rattle.layout_semantics.specs.LineFilling.{Met}
use Rattle.lay_float.specs.Readings.{floats_at}
use Rattle.lay_line.specs.Contexts.{context_at}
use Rattle.lay_line.specs.Limits.{PlacesFit}
use Rattle.lay_line.specs.Readings.{met_at}
use Rattle.lay_line.proofs.Placing.{first_place, placed_places}
use Rattle.lay_line.proofs.meeting.place_each.Goals as goal

pub loop-at-preserved : goal.loop-at-preserved
loop-at-preserved g c =
    let at = g.S.Steady.at in
    let run = g.S.Steady.run in
    let k = c.loop-at.at-index in
    let all = c.args.boxes.now in
    let b = get_or all k 0 in
    let is = drop_more all k 0 c.loop-at-test.true in
    record {
      goes = Goes-then _ _ _ c.loop-at.invariant.goes c.place_next.ensures.goes;
      value = λ e o. grind (arith, common_steps);
      fits = λ e o f.
          let o1 = c.place_next.ensures.goes.closes e o in
          let ctx = context_at at c.args.container.now e in
          let least = at c.args.least.now e in
          let y = at c.args.y.now e in
          subst (λ (m : Met). PlacesFit ctx m.floats least y (drop (k + 1) all)) (sym (c.place_next.ensures.value e o))
          (placed_places ctx least y (met_at at c.loop-at.met e) b (drop (k + 1) all)
          (subst (λ (l : List ℕ). PlacesFit ctx (floats_at at c.loop-at.met.floats e) least y l) is (c.loop-at.invariant.fits e o1 f)));
      cause = BlamesButMem-then (run c.args.calc.now) (run c.loop-at.calc) (run c.place_next.new.calc) _ _ c.loop-at.invariant.goes c.place_next.ensures.goes c.loop-at.invariant.cause
          (λ f e o.
          let ctx = context_at at c.args.container.now e in
          let least = at c.args.least.now e in
          let y = at c.args.y.now e in
          first_place ctx (floats_at at c.loop-at.met.floats e) least y b (drop (k + 1) all)
          (subst (λ (l : List ℕ). PlacesFit ctx (floats_at at c.loop-at.met.floats e) least y l) is
          (c.loop-at.invariant.fits e o (f e (c.loop-at.invariant.goes.closes e o)))))
          c.place_next.ensures.cause;
    }
