use Rattle.std.proofs.Common.{◌≡◌, [], ℤ, List, length, IfSome, Option, Some, None, ap, sym, subst, ◌∙◌}
use Rattle.std.proofs.lemmas.List.{length-map}
use Rattle.viz_base.specs.declared.layouts.Waiting.{Waiting}
use Rattle.viz_calc.specs.World.{Reading}
use Rattle.layout_semantics.specs.Floats.{lowest_bottom}
use Rattle.layout_semantics.specs.FlowBoxes.{clear_of}
use Rattle.lay_float.specs.Limits.{AreHalf}
use Rattle.lay_line.proofs.Chains.{but_mem, start_but_mem, next_but_mem}
use Rattle.lay_margin.specs.Readings.{floats_at as waiting_at, waiting_at as waiting_in}
use Rattle.lay_steps.specs.Forward.{bottom_to_clear, is_above}
use Rattle.lay_float.specs.TrialReadings.{trial_at}
use Rattle.lay_float.specs.declared.trial.Trial.{Trial}
use Rattle.lay_flow.specs.Tries.{trial_of, floats_with}
use Rattle.lay_flow.specs.Ways.{ground_at, trials_at, AreTried, WaitingFitsAt}
use Rattle.lay_flow.specs.declared.forward.Way.{Way}
use Rattle.lay_flow.specs.declared.parts.Tries.{Tries}
use Rattle.lay_flow.proofs.Tried.{of-all, floats-same, floats-half}
use Rattle.lay_flow.proofs.forward.told_at.Goals as goal

module _ {N : Type 0} (at : N → Reading → ℤ) (x : Way N) (e : Reading) where
  -- what is kept of a trial of all floats that wait
  kept-is : (ws : List (Waiting N)) (y : N) (trial : Option (Trial N)) (tries : Option (Tries N)) → IfSome tries (λ t. (t.y ≡ y) × (t.count ≡ length ws) × (trial ≡ Some t.trial))
      → trials_at at trial e ≡ trial_of (ground_at at x e) (at y e) (waiting_at at ws e) → AreTried at x e (waiting_at at ws e) tries
  kept-is ws y trial None k v = tt
  kept-is ws y trial (Some t) k v =
      subst (λ n. AreTried at x e (waiting_at at ws e) (Some (record { y = t.y; count = n; trial = t.trial }))) (length-map ws (λ f. waiting_in at f e) ∙ sym k.1)
      (of-all (ground_at at x e) (at t.y e) (waiting_at at ws e) (trial_at at t.trial e)
      (ap (λ o. trials_at at o e) (sym k.2) ∙ v ∙ ap (λ z. trial_of (ground_at at x e) (at z e) (waiting_at at ws e)) (sym k.0)))

pub returns : goal.returns
unfolding bottom_to_clear
returns g c =
    let at = g.S.Steady.at in
    let way = c.args.way.now in
    let tree = way.page.now.tree.now in
    let b = c.args.asked.now.b in
    let ground = (λ (e : Reading). ground_at at way e) in
    let ws = (λ (e : Reading). waiting_at at c.args.asked.now.waiting.now e) in
    let y = (λ (e : Reading). at c.args.y e) in
    let tried = c.try_on-trial.ensures in
    let lowest = c.lowest-bottom.ensures in
    let above = c.is_above-cleared.ensures in
    let one = start_but_mem {asks = λ (e : Reading). WaitingFitsAt at way e (y e) (ws e)} tried.goes tried.cause (λ f. f) in
    let two = next_but_mem one lowest.goes (but_mem lowest.cause) (λ f e o.
    subst (λ t. AreHalf (floats_with (ground e) t) []) (sym (tried.value e o))
    (floats-half (ground e) (y e) (ws e) (f e o))) in
    let chain = next_but_mem two above.goes (but_mem above.cause) (λ f e o. tt) in
    record {
      goes = chain.goes;
      value = λ e o.
          let o2 = above.goes.closes e o in
          let o1 = lowest.goes.closes e o2 in
          above.value e o
          ∙ ap (λ l. is_above (y e) l)
          (lowest.value e o2
          ∙ ap (λ t. lowest_bottom (clear_of tree b) (floats_with (ground e) t)) (tried.value e o1)
          ∙ ap (lowest_bottom (clear_of tree b)) (floats-same (ground e) (y e) (ws e)));
      kept = λ e o.
          kept-is at way e c.args.asked.now.waiting.now c.args.y c.try_on-trial.result c.kept-tries.result c.kept-tries.ensures (tried.value e (lowest.goes.closes e (above.goes.closes e o)));
      cause = chain.cause;
    }
