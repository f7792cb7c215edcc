use Rattle.std.proofs.Common.{◌≡◌, [], ap, sym, subst, ◌∙◌}
use Rattle.std.specs.Prelude.{unwrap_or}
use Rattle.viz_calc.specs.World.{Reading}
use Rattle.layout_semantics.specs.Floats.{lowest_bottom}
use Rattle.layout_semantics.specs.FlowBoxes.{clear_of}
use Rattle.lay_float.specs.Limits.{AreHalf}
use Rattle.lay_float.specs.Readings.{option_at}
use Rattle.lay_line.proofs.Chains.{but_mem, start_but_mem, next_but_mem}
use Rattle.lay_margin.specs.Readings.{floats_at as waiting_at}
use Rattle.lay_margin.specs.Runs.{run_at}
use Rattle.lay_steps.specs.Forward.{bottom_to_clear}
use Rattle.lay_steps.specs.Runs.{edge_at}
use Rattle.lay_flow.specs.Tries.{trial_of, floats_with}
use Rattle.lay_flow.specs.WayFits.{WaitingFits, IsGroundLow, IsGoingLow}
use Rattle.lay_flow.specs.Ways.{ground_at}
use Rattle.lay_flow.proofs.Tried.{floats-same, floats-half}
use Rattle.lay_flow.proofs.WaitingLow.{edge-waits}
use Rattle.lay_flow.proofs.forward.clear_edge.Goals as goal

pub returns-in-Some : goal.returns-in-Some
unfolding bottom_to_clear
returns-in-Some g c =
    let at = g.S.Steady.at in
    let way = c.args.way.now in
    let tree = way.page.now.tree.now in
    let b = c.args.b in
    let going = c.args.going.now in
    let ground = (λ (e : Reading). ground_at at way e) in
    let run = (λ (e : Reading). run_at at going.run e) in
    let waiting = (λ (e : Reading). waiting_at at going.waiting e) in
    let y = (λ (e : Reading). at c.edge-y.result e) in
    let asks = (λ (e : Reading). IsGroundLow (ground e).base (ground e).floats (ground e).least × IsGoingLow (ground e).size (run e) (waiting e)) in
    let edge = c.edge-y.ensures in
    let tried = c.try_all-trial.ensures in
    let lowest = c.lowest.ensures in
    let waits = (λ (e : Reading) (f : asks e) (is : y e ≡ edge_at (ground e).base (run e)).
    subst (λ y. WaitingFits (ground e).size (ground e).floats (ground e).least y (waiting e)) (sym is)
    (edge-waits tree e.world (ground e).size (ground e).base (ground e).floats (ground e).least (run e) (waiting e) f.0 f.1)) in
    let one = start_but_mem {asks = asks} edge.goes (but_mem edge.cause) (λ f e o. ((f e o).0.edge, (f e o).1.margins)) in
    let two = next_but_mem one tried.goes tried.cause (λ f e o.
    subst (λ ws. WaitingFits (ground e).size (ground e).floats (ground e).least (y e) (waiting_at at ws e)) (sym c.as_slice.ensures)
    (waits e (f e o) (edge.value e o))) in
    let trial = (λ (e : Reading) (o : _). tried.value e o ∙ ap (λ ws. trial_of (ground e) (y e) (waiting_at at ws e)) c.as_slice.ensures) in
    let chain = next_but_mem two lowest.goes (but_mem lowest.cause) (λ f e o.
    subst (λ t. AreHalf (floats_with (ground e) t) []) (sym (trial e o))
    (floats-half (ground e) (y e) (waiting e) (waits e (f e o) (edge.value e (tried.goes.closes e o))))) in
    record {
      goes = chain.goes;
      value = λ e o.
          let o1 = lowest.goes.closes e o in
          ap (λ l. unwrap_or (option_at at l e) (y e)) (sym c.in-Some.is)
          ∙ ap (λ l. unwrap_or l (y e))
          (lowest.value e o
          ∙ ap (λ t. lowest_bottom (clear_of tree b) (floats_with (ground e) t)) (trial e o1)
          ∙ ap (lowest_bottom (clear_of tree b)) (floats-same (ground e) (y e) (waiting e)))
          ∙ ap (λ z. unwrap_or (bottom_to_clear (ground e) b (waiting e) z) z) (edge.value e (tried.goes.closes e o1));
      cause = chain.cause;
    }

pub returns-in-None : goal.returns-in-None
unfolding bottom_to_clear
returns-in-None g c =
    let at = g.S.Steady.at in
    let way = c.args.way.now in
    let tree = way.page.now.tree.now in
    let b = c.args.b in
    let going = c.args.going.now in
    let ground = (λ (e : Reading). ground_at at way e) in
    let run = (λ (e : Reading). run_at at going.run e) in
    let waiting = (λ (e : Reading). waiting_at at going.waiting e) in
    let y = (λ (e : Reading). at c.edge-y.result e) in
    let asks = (λ (e : Reading). IsGroundLow (ground e).base (ground e).floats (ground e).least × IsGoingLow (ground e).size (run e) (waiting e)) in
    let edge = c.edge-y.ensures in
    let tried = c.try_all-trial.ensures in
    let lowest = c.lowest.ensures in
    let waits = (λ (e : Reading) (f : asks e) (is : y e ≡ edge_at (ground e).base (run e)).
    subst (λ y. WaitingFits (ground e).size (ground e).floats (ground e).least y (waiting e)) (sym is)
    (edge-waits tree e.world (ground e).size (ground e).base (ground e).floats (ground e).least (run e) (waiting e) f.0 f.1)) in
    let one = start_but_mem {asks = asks} edge.goes (but_mem edge.cause) (λ f e o. ((f e o).0.edge, (f e o).1.margins)) in
    let two = next_but_mem one tried.goes tried.cause (λ f e o.
    subst (λ ws. WaitingFits (ground e).size (ground e).floats (ground e).least (y e) (waiting_at at ws e)) (sym c.as_slice.ensures)
    (waits e (f e o) (edge.value e o))) in
    let trial = (λ (e : Reading) (o : _). tried.value e o ∙ ap (λ ws. trial_of (ground e) (y e) (waiting_at at ws e)) c.as_slice.ensures) in
    let chain = next_but_mem two lowest.goes (but_mem lowest.cause) (λ f e o.
    subst (λ t. AreHalf (floats_with (ground e) t) []) (sym (trial e o))
    (floats-half (ground e) (y e) (waiting e) (waits e (f e o) (edge.value e (tried.goes.closes e o))))) in
    record {
      goes = chain.goes;
      value = λ e o.
          let o1 = lowest.goes.closes e o in
          ap (λ l. unwrap_or (option_at at l e) (y e)) (sym c.in-None.is)
          ∙ ap (λ l. unwrap_or l (y e))
          (lowest.value e o
          ∙ ap (λ t. lowest_bottom (clear_of tree b) (floats_with (ground e) t)) (trial e o1)
          ∙ ap (lowest_bottom (clear_of tree b)) (floats-same (ground e) (y e) (waiting e)))
          ∙ ap (λ z. unwrap_or (bottom_to_clear (ground e) b (waiting e) z) z) (edge.value e (tried.goes.closes e o1));
      cause = chain.cause;
    }
