use Rattle.std.proofs.Common.{◌≡◌, ◌++◌, ◌≤◌, ℕ, ℤ, List, length, IfSome, Option, Some, None, ap, sym, subst, arith, ◌∙◌}
use Rattle.std.proofs.lemmas.List.{map-append, length-append, length-map}
use Rattle.viz_base.specs.declared.layouts.Waiting.{Waiting}
use Rattle.viz_calc.specs.World.{Reading}
use Rattle.viz_calc.specs.Renderings.{band_at}
use Rattle.layout_semantics.specs.FlowBoxes.{clear_of}
use Rattle.lay_line.proofs.Chains.{start_but_mem, next_but_mem}
use Rattle.lay_margin.specs.Readings.{floats_at as waiting_at, waiting_at as waiting_in}
use Rattle.lay_margin.specs.Runs.{run_at}
use Rattle.lay_steps.specs.Forward.{hypothetical_edge}
use Rattle.lay_float.specs.steps.Bands.{is_relevant_side}
use Rattle.lay_flow.specs.Levels.{clears, float_side}
use Rattle.lay_flow.specs.WayFits.{IsGoingLow, IsDecisionLow, WaitingFits}
use Rattle.lay_flow.specs.Ways.{ground_at, AreTried, DecisionFitsAt}
use Rattle.lay_flow.specs.declared.parts.Tries.{Tries}
use Rattle.lay_flow.proofs.LevelTells.{are-more, are-fewer, clears-same, going-part, unnamed-at}
use Rattle.lay_flow.proofs.WaitingLow.{hypothetical-waits}
use Rattle.lay_flow.proofs.forward.is_to_clear.Goals as goal

pub returns-clause-forward : goal.returns-clause-forward
returns-clause-forward g c =
    let at = g.S.Steady.at in
    let way = c.args.way.now in
    let tree = way.page.now.tree.now in
    let b = c.args.b in
    let going = c.args.going.now in
    let part = c.up_to_named-part.result.now in
    let named = c.up_to_named-part.ensures in
    let rest = named.rest in
    let ground = (λ (e : Reading). ground_at at way e) in
    let cb = (λ (e : Reading). band_at at c.args.cb.now e) in
    let run = (λ (e : Reading). run_at at going.run e) in
    let all = (λ (e : Reading). waiting_at at going.waiting e) in
    let some = (λ (e : Reading). waiting_at at part e) in
    let others = (λ (e : Reading). waiting_at at rest e) in
    let y = (λ (e : Reading). at c.hypothetical_edge-y.result e) in
    let edge_of = (λ (e : Reading). hypothetical_edge (ground e) (cb e) b (run e)) in
    let asks = (λ (e : Reading). DecisionFitsAt at way e (cb e) b (run e) (all e)) in
    let whole = (λ (e : Reading). ap (λ ws. waiting_at at ws e) (sym c.as_slice.ensures ∙ named.whole) ∙ map-append (λ w. waiting_in at w e) part rest) in
    let going_part = (λ (e : Reading) (f : asks e). going-part (ground e).size (run e) (some e) (others e) (subst (IsGoingLow (ground e).size (run e)) (whole e) f.going)) in
    let waits = (λ (e : Reading) (f : asks e) (is : y e ≡ edge_of e).
    subst (λ y. WaitingFits (ground e).size (ground e).floats (ground e).least y (some e)) (sym is)
    (hypothetical-waits tree e.world (ground e).size (ground e).base (ground e).floats (ground e).least (run e) (some e) (cb e) b (record { ground = f.ground; lead = f.lead; going = going_part e f }))) in
    let edge = c.hypothetical_edge-y.ensures in
    let told = c.told-cleared.ensures in
    let one = start_but_mem {asks = asks} edge.goes edge.cause (λ f e o. ((f e o).ground.edge, (f e o).going.margins, (f e o).lead)) in
    let chain = next_but_mem one told.goes told.cause (λ f e o. (waits e (f e o) (edge.value e o), (f e o).ground, going_part e (f e o))) in
    record {
      goes = chain.goes;
      value = λ e o.
          told.value e o
          ∙ clears-same (ground e) b (y e) (some e) (others e) (unnamed-at at e tree (ground e).size (ground e).least (clear_of tree b) rest (λ w i. ap (λ k. is_relevant_side k (float_side tree w.at)) (sym c.clear_in_flow-clear.ensures) ∙ named.unnamed w i))
          ∙ ap (λ ws. clears (ground e) b ws (y e)) (sym (whole e))
          ∙ ap (clears (ground e) b (all e)) (edge.value e (told.goes.closes e o));
      keeps = λ e o. subst (λ ws. AreTried at way e ws c.told-cleared.result.tries) (sym (whole e)) (are-more at way e (some e) (others e) c.told-cleared.result.tries (told.kept e o));
      cause = chain.cause;
    }

-- as many of these floats were tried at most, if any were
at-most : {N : Type 0} (at : N → Reading → ℤ) (e : Reading) (all part rest : List (Waiting N)) (least : ℕ) (tries : Option (Tries N)) → all ≡ part ++ rest → ((n : ℕ) → n ≤ length all → n ≤ least → n ≤ length part)
    → IfSome tries (λ t. t.count ≤ least) → IfSome tries (λ t. t.count ≤ length (waiting_at at part e ++ waiting_at at rest e) → t.count ≤ length (waiting_at at part e))
at-most at e all part rest least None whole long l = tt
at-most at e all part rest least (Some t) whole long l = λ m.
    let total = ap length whole in
    let sum = length-append part rest in
    let sums = length-append (waiting_at at part e) (waiting_at at rest e) in
    let one = length-map part (λ w. waiting_in at w e) in
    let two = length-map rest (λ w. waiting_in at w e) in
    let r = long t.count (omega (arith, m, total, sum, sums, one, two)) l in
    omega (arith, r, one)

pub told-cleared-requires : goal.told-cleared-requires
told-cleared-requires g c = λ e o.
    let at = g.S.Steady.at in
    let way = c.args.way.now in
    let going = c.args.going.now in
    let part = c.up_to_named-part.result.now in
    let named = c.up_to_named-part.ensures in
    let whole = ap (λ ws. waiting_at at ws e) (sym c.as_slice.ensures ∙ named.whole) ∙ map-append (λ w. waiting_in at w e) part named.rest in
    let kept = subst (AreTried at way e (waiting_at at going.waiting e)) (sym c.take-before.ensures.value) (c.requires.keeps e (c.hypothetical_edge-y.ensures.goes.closes e o)) in
    are-fewer at way e (waiting_at at part e) (waiting_at at named.rest e) c.take-before.result
    (at-most at e c.as_slice.result.now part named.rest c.count_before.result c.take-before.result named.whole named.long c.count_before.ensures)
    (subst (λ ws. AreTried at way e ws c.take-before.result) whole kept)
