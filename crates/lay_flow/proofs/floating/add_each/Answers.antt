use Rattle.std.proofs.Common.{◌≡◌, ℕ, ℤ, ◌+◌, ◌<◌, List, [], ◌∷◌, ◌++◌, length, drop, get_or, ap, sym, ◌∙◌, append_assoc}
use Rattle.std.proofs.lemmas.List.{at_drop_more}
use Rattle.viz_base.specs.declared.layouts.Spot.{Spot}
use Rattle.viz_base.specs.declared.renderings.Placed.{Placed}
use Rattle.std.specs.List.{AllByRecursion}
use Rattle.viz_calc.specs.World.{Reading}
use Rattle.viz_calc.specs.Renderings.{placed_at, spot_at}
use Rattle.viz_calc.proofs.Runs.{Goes-then}
use Rattle.layout_semantics.specs.Rectangles.{shifted, shifted_box}
use Rattle.lay_frame.specs.Readings.{boxes_at}
use Rattle.lay_line.proofs.Chains.{ChainButMem, next_but_mem, but_mem}
use Rattle.lay_line.proofs.Found.{all-here, all-from}
use Rattle.page_limits.specs.Bounds.{IsPlacedIn}
use Rattle.lay_flow.specs.Low.{reach}
use Rattle.lay_flow.specs.Fits.{IsSpotNear}
use Rattle.lay_flow.proofs.floating.add_each.Goals as goal

-- with one box more that is moved
one-moved : {N : Type 0} (at : N → Reading → ℤ) (e : Reading) (by : Spot ℤ) (old new xs : List (Placed N)) (k : ℕ) (x moved : Placed N) → k < length xs → x ≡ get_or xs k x
    → boxes_at at new e ≡ boxes_at at old e ++ placed_at at moved e ∷ [] → placed_at at moved e ≡ shifted_box by (placed_at at x e)
    → boxes_at at new e ++ shifted by (boxes_at at (drop (k + 1) xs) e) ≡ boxes_at at old e ++ shifted by (boxes_at at (drop k xs) e)
unfolding boxes_at
one-moved at e by old new xs k x moved lt is added same =
    let rest = shifted by (boxes_at at (drop (k + 1) xs) e) in
    ap (λ l. l ++ rest) added
    ∙ append_assoc (boxes_at at old e) (placed_at at moved e ∷ []) rest
    ∙ ap (λ p. boxes_at at old e ++ p ∷ rest) same
    ∙ ap (λ y. boxes_at at old e ++ shifted_box by (placed_at at y e) ∷ rest) is
    ∙ sym (at_drop_more (λ l. boxes_at at old e ++ shifted by (boxes_at at l e)) xs k x lt)

one-low : {N : Type 0} (at : N → Reading → ℤ) (e : Reading) (xs : List (Placed N)) (k : ℕ) (x : Placed N) → k < length xs → x ≡ get_or xs k x → AllByRecursion (IsPlacedIn reach) (boxes_at at xs e) → IsPlacedIn reach (placed_at at x e)
unfolding boxes_at
one-low at e xs k x lt is a = all-here (IsPlacedIn reach) (λ p. placed_at at p e) xs k x lt is (all-from (IsPlacedIn reach) (λ p. placed_at at p e) xs k a)

pub loop-placed-preserved : goal.loop-placed-preserved
loop-placed-preserved g c =
    let at = g.S.Steady.at in
    let moved = c.shift_box-moved.ensures in
    let added = c.append.ensures in
    let run = g.S.Steady.run in
    let by = c.args.by.now in
    let xs = c.args.boxes.now in
    let so_far : ChainButMem (run c.args.calc.now) (run c.loop-placed.calc) (λ (e : Reading). IsSpotNear (spot_at at by e) × AllByRecursion (IsPlacedIn reach) (boxes_at at xs e)) =
    record { goes = c.loop-placed.invariant.goes; cause = c.loop-placed.invariant.cause } in
    let one = next_but_mem so_far moved.goes (but_mem moved.cause) (λ f e o. ((f e o).0, one-low at e xs c.loop-placed.placed-index c.placed-item.result c.loop-placed-test.true c.placed-item.is (f e o).1)) in
    record {
      goes = Goes-then _ _ _ (Goes-then _ _ _ c.loop-placed.invariant.goes moved.goes) added.goes;
      value = λ e o.
          let o1 = added.goes.closes e o in
          one-moved at e (spot_at at c.args.by.now e) c.loop-placed.out.items c.append.new.out.items c.args.boxes.now c.loop-placed.placed-index c.placed-item.result c.shift_box-moved.result
          c.loop-placed-test.true c.placed-item.is (added.value e o) (moved.value e o1)
          ∙ c.loop-placed.invariant.value e (moved.goes.closes e o1);
      cause = (next_but_mem one added.goes added.cause (λ f e o. tt)).cause;
    }
