use Rattle.std.proofs.Common.{◌≡◌, Some, ap, sym, subst, arith, ◌∙◌}
use Rattle.std.proofs.lemmas.List.{length-map, drop-map}
use Rattle.viz_calc.specs.World.{Reading}
use Rattle.lay_line.proofs.Chains.{but_mem, start_but_mem, next_but_mem}
use Rattle.lay_margin.specs.Readings.{floats_at as waiting_at, waiting_at as waiting_in}
use Rattle.lay_float.specs.TrialReadings.{trial_at}
use Rattle.lay_flow.specs.Tries.{other_trials, IsTrialOf, TrialFits}
use Rattle.lay_flow.specs.Ways.{ground_at, AreTried, WaitingFitsAt}
use Rattle.lay_flow.proofs.Tried.{goes-on, rest-fits}
use Rattle.lay_flow.proofs.forward.try_on.Goals as goal

pub returns-in_err-others : goal.returns-in_err-others
returns-in_err-others g c =
    let at = g.S.Steady.at in
    let way = c.args.way.now in
    let waiting = c.args.waiting.now in
    let found = c.in-Some.ensures in
    let chain = start_but_mem {asks = λ (e : Reading). WaitingFitsAt at way e (at c.args.y.now e) (waiting_at at waiting e)} found.goes (but_mem found.cause) (λ f. tt) in
    record {
      goes = chain.goes;
      value = λ e o.
          let kept = subst (AreTried at way e (waiting_at at waiting e)) (found.value e o).0 (c.requires e (found.goes.closes e o)) in
          let within = kept.within in
          let long = length-map waiting (λ f. waiting_in at f e) in
          let past = c.in_err-others.ensures.cases in
          absurd (omega (arith, within, long, past));
      cause = chain.cause;
    }

pub returns : goal.returns
returns g c =
    let at = g.S.Steady.at in
    let way = c.args.way.now in
    let waiting = c.args.waiting.now in
    let count = c.in-Some.tries.count in
    let ground = (λ (e : Reading). ground_at at way e) in
    let y = (λ (e : Reading). at c.args.y.now e) in
    let ws = (λ (e : Reading). waiting_at at waiting e) in
    let before = (λ (e : Reading). trial_at at c.in-Some.tries.trial e) in
    let found = c.in-Some.ensures in
    let tried = c.try_others.ensures in
    let others = (λ (e : Reading). ap (λ l. waiting_at at l e) c.in_ok-others.ensures.cases.2 ∙ sym (drop-map (λ f. waiting_in at f e) count waiting)) in
    let kept = (λ (e : Reading) (is : c.args.tries ≡ Some c.in-Some.tries) (same : at c.in-Some.tries.y e ≡ y e) (k : AreTried at way e (ws e) c.args.tries).
    subst (λ z. IsTrialOf (ground e) z count (ws e) (before e)) same (subst (AreTried at way e (ws e)) is k)) in
    let one = start_but_mem {asks = λ (e : Reading). WaitingFitsAt at way e (y e) (ws e)} found.goes (but_mem found.cause) (λ f. tt) in
    let chain = next_but_mem one tried.goes tried.cause (λ f e o.
    subst (TrialFits (ground e) (before e)) (sym (others e))
    (rest-fits (ground e) (y e) count (ws e) (before e) (kept e (found.value e o).0 (found.value e o).1 (c.requires e (found.goes.closes e o))).tried (f e o))) in
    record {
      goes = chain.goes;
      value = λ e o.
          let o1 = tried.goes.closes e o in
          ap Some (tried.value e o ∙ ap (λ l. other_trials (ground e) l (before e)) (others e))
          ∙ goes-on (ground e) (y e) count (ws e) (before e) (kept e (found.value e o1).0 (found.value e o1).1 (c.requires e (found.goes.closes e o1))).tried;
      cause = chain.cause;
    }
