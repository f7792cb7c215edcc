use Rattle.std.proofs.Common.{◌≡◌, ℕ, zero, suc, Bool, true, false, ◌||◌, int_lt, List, [], ◌∷◌, length, drop, Contains, refl, ap, sym, subst, ◌∙◌}
use Rattle.std.proofs.lemmas.List.{length-map, drop-map}
use Rattle.std.specs.Option.{option_map_or}
use Rattle.viz_base.proofs.ListLemmas.{later_member}
use Rattle.viz_calc.specs.World.{Reading}
use Rattle.layout_semantics.specs.Floats.{FloatBox, lowest_bottom}
use Rattle.layout_semantics.specs.FlowBoxes.{clear_of}
use Rattle.lay_float.specs.Limits.{AreHalf}
use Rattle.lay_float.specs.Readings.{box_at, boxes_at}
use Rattle.lay_float.specs.TrialReadings.{trial_at}
use Rattle.lay_line.proofs.Chains.{start, next}
use Rattle.lay_flow.proofs.forward.clears_level.Goals as goal

or-true : (a b : Bool) → a ≡ true → true ≡ (a || b)
or-true true b e = refl
or-true false b e = absurd (cc)

or-false : (a b : Bool) → a ≡ false → b ≡ (a || b)
or-false false b e = refl
or-false true b e = absurd (cc)

behind-one : (n : ℕ) (fs : List FloatBox) (f : FloatBox) → Contains (drop n fs) f → Contains fs f
behind-one zero fs f i = i
behind-one (suc n) [] f i = i
behind-one (suc n) (x ∷ fs) f i = later_member fs (behind-one n fs f i)

behind-half : (n : ℕ) (fs : List FloatBox) → AreHalf fs [] → AreHalf (drop n fs) []
behind-half n fs h = record { edges = λ f i. h.edges f (behind-one n fs f i); numbers = tt }

pub returns-then-is_above : goal.returns-then-is_above
returns-then-is_above g c =
    let at = g.S.Steady.at in
    let floats = (λ (e : Reading). boxes_at at c.args.way.now.floats.now e) in
    let all = (λ (e : Reading). (trial_at at c.args.tries.now.trial e).all) in
    let y = (λ (e : Reading). at c.args.y.now e) in
    let before = c.bottom-before.ensures in
    let above = c.is_above.ensures in
    let clear = c.clear_in_flow-clear.ensures in
    let asks = (λ (e : Reading). AreHalf (floats e) [] × AreHalf (all e) []) in
    let one = start {asks = asks} before.goes before.cause (λ f e o. (f e o).0) in
    let chain = next one above.goes above.cause (λ f e o. tt) in
    record {
      goes = chain.goes;
      value = λ e o.
          or-true (option_map_or (int_lt (y e)) (lowest_bottom (clear_of c.args.way.now.page.now.tree.now c.args.b) (floats e)) false) _
          (sym (above.value e o
          ∙ ap (λ l. option_map_or (int_lt (y e)) l false) (before.value e (above.goes.closes e o) ∙ ap (λ k. lowest_bottom k (floats e)) clear))
          ∙ c.if-is_above.true);
      cause = chain.cause;
    }

pub returns : goal.returns
returns g c =
    let at = g.S.Steady.at in
    let list = c.args.way.now.floats.now in
    let placed = c.args.tries.now.trial.all.placed in
    let floats = (λ (e : Reading). boxes_at at list e) in
    let all = (λ (e : Reading). boxes_at at placed e) in
    let y = (λ (e : Reading). at c.args.y.now e) in
    let from = (λ (e : Reading). at c.args.tries.now.y e) in
    let before = c.bottom-before.ensures in
    let above = c.is_above.ensures in
    let lowest = c.bottom-lowest.ensures in
    let last = c.is_above-2.ensures in
    let clear = c.clear_in_flow-clear.ensures in
    let tried = (λ (e : Reading).
    ap (λ l. boxes_at at l e) (c.behind-tried.ensures ∙ ap (drop (length list)) c.as_slice.ensures)
    ∙ sym (drop-map (λ f. box_at at f e) (length list) placed)
    ∙ ap (λ n. drop n (all e)) (sym (length-map list (λ f. box_at at f e)))) in
    let asks = (λ (e : Reading). AreHalf (floats e) [] × AreHalf (all e) []) in
    let one = start {asks = asks} before.goes before.cause (λ f e o. (f e o).0) in
    let two = next one above.goes above.cause (λ f e o. tt) in
    let three = next two lowest.goes lowest.cause (λ f e o. subst (λ fs. AreHalf fs []) (sym (tried e)) (behind-half (length (floats e)) (all e) (f e o).1)) in
    let chain = next three last.goes last.cause (λ f e o. tt) in
    record {
      goes = chain.goes;
      value = λ e o.
          let o3 = last.goes.closes e o in
          let o2 = lowest.goes.closes e o3 in
          last.value e o
          ∙ ap (λ l. option_map_or (int_lt (from e)) l false)
          (lowest.value e o3
          ∙ ap (lowest_bottom c.clear_in_flow-clear.result) (tried e)
          ∙ ap (λ k. lowest_bottom k (drop (length (floats e)) (all e))) clear)
          ∙ or-false (option_map_or (int_lt (y e)) (lowest_bottom (clear_of c.args.way.now.page.now.tree.now c.args.b) (floats e)) false) _
          (sym (above.value e o2
          ∙ ap (λ l. option_map_or (int_lt (y e)) l false) (before.value e (above.goes.closes e o2) ∙ ap (λ k. lowest_bottom k (floats e)) clear))
          ∙ c.if-is_above.false);
      cause = chain.cause;
    }
