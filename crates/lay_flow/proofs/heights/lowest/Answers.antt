use Rattle.std.proofs.Common.{◌≡◌, ℕ, ℤ, pos, ◌+◌, ◌-◌, ◌<◌, List, length, drop, get_or, ap, sym, ◌∙◌, arith}
use Rattle.std.specs.Prelude.{◌-ℤ◌}
use Rattle.std.specs.Int.{int_max}
use Rattle.std.proofs.lemmas.List.{at_drop_more, drop_all}
use Rattle.viz_calc.specs.World.{Reading}
use Rattle.viz_calc.proofs.Runs.{Goes-then}
use Rattle.std.specs.List.{AllByRecursion}
use Rattle.lay_float.specs.Readings.{boxes_at, box_at}
use Rattle.lay_float.specs.declared.floats.PlacedFloat.{PlacedFloat}
use Rattle.lay_line.proofs.Chains.{Chain, start, next}
use Rattle.lay_line.proofs.Found.{all-next, all-from}
use Rattle.page_limits.specs.Bounds.{IsFloatIn}
use Rattle.lay_flow.specs.Low.{reach}
use Rattle.lay_flow.specs.Fits.{IsNear}
use Rattle.lay_steps.specs.Flow.{lowest_of}
use Rattle.lay_flow.proofs.Sizes.{level-near, near-difference, zero-fits}
use Rattle.lay_flow.proofs.heights.lowest.Goals as goal

-- nothing is below where there are no floats
none-lowest : {N : Type 0} (at : N → Reading → ℤ) (e : Reading) (top : ℤ) (fs : List (PlacedFloat N)) (k : ℕ) → k ≡ length fs → lowest_of top (boxes_at at (drop k fs) e) ≡ pos 0
none-lowest at e top fs k is = ap (λ l. lowest_of top (boxes_at at l e)) (drop_all k fs (omega (arith, is)))

-- with one float more
one-lower : {N : Type 0} (at : N → Reading → ℤ) (e : Reading) (top : ℤ) (fs : List (PlacedFloat N)) (k j i : ℕ) (d : PlacedFloat N) (best : ℤ) → k < length fs → k + 1 ≡ j → k ≡ i
    → best ≡ lowest_of top (boxes_at at (drop j fs) e) → int_max (at (get_or fs k d).outer.bottom e -ℤ top) best ≡ lowest_of top (boxes_at at (drop i fs) e)
one-lower at e top fs k j i d best l next same low =
    ap (λ b. int_max (at (get_or fs k d).outer.bottom e -ℤ top) b) low
    ∙ ap (λ m. int_max (at (get_or fs k d).outer.bottom e -ℤ top) (lowest_of top (boxes_at at (drop m fs) e))) (sym next)
    ∙ sym (at_drop_more (λ l. lowest_of top (boxes_at at l e)) fs k d l)
    ∙ ap (λ m. lowest_of top (boxes_at at (drop m fs) e)) same

pub loop-done-init : goal.loop-done-init
loop-done-init g c = record {
  goes = c.zero-best.ensures.goes;
  value = λ e o. c.zero-best.ensures.value e o ∙ sym (none-lowest g.S.Steady.at e (g.S.Steady.at c.args.top.now e) c.args.floats.now (length c.args.floats.now - 0) (omega arith));
  cause = (start {asks = λ (e : Reading). IsNear (g.S.Steady.at c.args.top.now e) × AllByRecursion (IsFloatIn reach) (boxes_at g.S.Steady.at c.args.floats.now e)} c.zero-best.ensures.goes c.zero-best.ensures.cause (λ f e o. zero-fits)).cause;
}

pub loop-done-preserved : goal.loop-done-preserved
loop-done-preserved g c =
    let at = g.S.Steady.at in
    let height = c.sub-height.ensures in
    let best = c.greater-best.ensures in
    let n = length c.args.floats.now in
    let run = g.S.Steady.run in
    let fs = c.args.floats.now in
    let k = n - 1 - c.loop-done.done in
    let so_far : Chain (run c.args.calc.now) (run c.loop-done.calc) (λ (e : Reading). IsNear (at c.args.top.now e) × AllByRecursion (IsFloatIn reach) (boxes_at at fs e)) = record { goes = c.loop-done.invariant.goes; cause = c.loop-done.invariant.cause } in
    let one = next so_far height.goes height.cause (λ f e o.
    let float = all-next (IsFloatIn reach) (λ f. box_at at f e) fs k c.index-floats-count.result (omega (arith, c.loop-done-test.true)) (all-from (IsFloatIn reach) (λ f. box_at at f e) fs k (f e o).1) in
    near-difference (at (get_or fs k c.index-floats-count.result).outer.bottom e) (at c.args.top.now e) (level-near _ float.bottom) (f e o).0) in
    record {
      goes = Goes-then _ _ _ (Goes-then _ _ _ c.loop-done.invariant.goes height.goes) best.goes;
      value = λ e o.
          let o1 = best.goes.closes e o in
          best.value e o
          ∙ ap (λ h. int_max h (at c.loop-done.best e)) (height.value e o1)
          ∙ one-lower at e (at c.args.top.now e) c.args.floats.now (n - 1 - c.loop-done.done) (n - c.loop-done.done) (n - (c.loop-done.done + 1)) c.index-floats-count.result (at c.loop-done.best e)
          (omega (arith, c.loop-done-test.true)) (omega (arith, c.loop-done-test.true)) (omega (arith, c.loop-done-test.true))
          (c.loop-done.invariant.value e (height.goes.closes e o1));
      cause = (next one best.goes best.cause (λ f e o. tt)).cause;
    }

pub returns : goal.returns
returns g c = record {
  goes = c.loop-done.invariant.goes;
  value = λ e o.
      let none : length c.args.floats.now - c.loop-done.done ≡ 0 = omega (arith, c.loop-done-test.false) in
      c.loop-done.invariant.value e o ∙ ap (λ i. lowest_of (g.S.Steady.at c.args.top.now e) (boxes_at g.S.Steady.at (drop i c.args.floats.now) e)) none;
  cause = c.loop-done.invariant.cause;
}
