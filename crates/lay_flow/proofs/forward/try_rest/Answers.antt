use Rattle.std.proofs.Common.{◌≡◌, length, Some, ap, sym, subst, arith, ◌∙◌}
use Rattle.std.proofs.lemmas.List.{length-map, drop-map}
use Rattle.viz_calc.specs.World.{Reading}
use Rattle.lay_line.proofs.Chains.{start_but_mem}
use Rattle.lay_margin.specs.Readings.{floats_at as waiting_at, waiting_at as waiting_in}
use Rattle.lay_float.specs.TrialReadings.{trial_at}
use Rattle.lay_flow.specs.Tries.{other_trials, IsTrialOf, TrialFits}
use Rattle.lay_flow.specs.Ways.{ground_at, WaitingFitsAt}
use Rattle.lay_flow.proofs.Tried.{goes-on, rest-fits, of-all}
use Rattle.lay_flow.proofs.forward.try_rest.Goals as goal

pub returns-in-Some-clause-value : goal.returns-in-Some-clause-value
returns-in-Some-clause-value g c = λ e o.
    let at = g.S.Steady.at in
    let ground = ground_at at c.args.way.now e in
    let waiting = c.args.waiting.now in
    let ws = waiting_at at waiting e in
    let y = at c.args.tries.y e in
    let count = c.args.tries.count in
    let before = trial_at at c.args.tries.trial e in
    let tried = c.try_others.ensures in
    let others = ap (λ l. waiting_at at l e) c.in-Some.ensures.cases.2 ∙ sym (drop-map (λ f. waiting_in at f e) count waiting) in
    let is = ap Some (tried.value e o ∙ ap (λ l. other_trials ground l before) others) ∙ goes-on ground y count ws before (c.requires e (tried.goes.closes e o)).tried in
    let long : length waiting ≡ length ws = sym (length-map waiting (λ f. waiting_in at f e)) in
    (long, subst (λ n. IsTrialOf ground y n ws (trial_at at c.try_others.result e)) (sym long) (of-all ground y ws (trial_at at c.try_others.result e) is))

pub returns-in-Some-clause-cause : goal.returns-in-Some-clause-cause
returns-in-Some-clause-cause g c =
    let at = g.S.Steady.at in
    let way = c.args.way.now in
    let waiting = c.args.waiting.now in
    let ground = (λ (e : Reading). ground_at at way e) in
    let ws = (λ (e : Reading). waiting_at at waiting e) in
    let y = (λ (e : Reading). at c.args.tries.y e) in
    let count = c.args.tries.count in
    let before = (λ (e : Reading). trial_at at c.args.tries.trial e) in
    let tried = c.try_others.ensures in
    let others = (λ (e : Reading). ap (λ l. waiting_at at l e) c.in-Some.ensures.cases.2 ∙ sym (drop-map (λ f. waiting_in at f e) count waiting)) in
    (start_but_mem {asks = λ (e : Reading). WaitingFitsAt at way e (y e) (ws e)} tried.goes tried.cause (λ f e o.
    subst (TrialFits (ground e) (before e)) (sym (others e))
    (rest-fits (ground e) (y e) count (ws e) (before e) (c.requires e o).tried (f e o)))).cause

pub returns-in-None-clause-value : goal.returns-in-None-clause-value
returns-in-None-clause-value g c = λ e o.
    let at = g.S.Steady.at in
    let waiting = c.args.waiting.now in
    let within = (c.requires e o).within in
    let long = length-map waiting (λ f. waiting_in at f e) in
    let past = c.in-None.ensures.cases in
    absurd (omega (arith, within, long, past))
