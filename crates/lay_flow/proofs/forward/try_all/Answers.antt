use Rattle.std.proofs.Common.{◌≡◌, [], ◌∷◌, Some, ap, sym, subst, arith, ◌∙◌}
use Rattle.std.proofs.lemmas.List.{nil_from_length}
use Rattle.std.proofs.lemmas.Grind.{common_steps}
use Rattle.viz_calc.specs.World.{Reading}
use Rattle.lay_line.proofs.Chains.{start_but_mem, next_but_mem}
use Rattle.lay_margin.specs.Readings.{floats_at as waiting_at, waiting_at as waiting_in}
use Rattle.lay_float.specs.Trials.{Tried}
use Rattle.lay_flow.specs.Tries.{other_trials, trial_of, TrialFits}
use Rattle.lay_flow.specs.WayFits.{WaitingFits}
use Rattle.lay_flow.specs.Ways.{ground_at}
use Rattle.lay_flow.proofs.TriesLow.{first-fits, one-fits}
use Rattle.lay_flow.proofs.forward.try_all.Goals as goal

pub returns-in-None : goal.returns-in-None
returns-in-None g c =
    let at = g.S.Steady.at in
    let way = c.args.way.now in
    let none : c.args.waiting.now ≡ [] = nil_from_length c.args.waiting.now (let h = c.in-None.ensures.cases in omega arith) in
    record {
      goes = grind (arith, common_steps);
      value = λ e o. ap (λ ws. trial_of (ground_at at way e) (at c.args.y.now e) (waiting_at at ws e)) (sym none);
      cause = grind (arith, common_steps);
    }

pub returns-in-Some : goal.returns-in-Some
returns-in-Some g c =
    let at = g.S.Steady.at in
    let way = c.args.way.now in
    let ground = (λ (e : Reading). ground_at at way e) in
    let y = (λ (e : Reading). at c.args.y.now e) in
    let list : c.args.waiting.now ≡ c.in-Some.first.now ∷ c.in-Some.others.now = let h = c.in-Some.ensures.cases in grind arith in
    let first = (λ (e : Reading). waiting_in at c.in-Some.first.now e) in
    let others = (λ (e : Reading). waiting_at at c.in-Some.others.now e) in
    let asks = (λ (e : Reading). WaitingFits (ground e).size (ground e).floats (ground e).least (y e) (waiting_at at c.args.waiting.now e)) in
    let here = (λ (e : Reading) (f : asks e). subst (λ ws. WaitingFits (ground e).size (ground e).floats (ground e).least (y e) (waiting_at at ws e)) list f) in
    let begun = c.try_first-trial.ensures in
    let tried = c.try_others.ensures in
    let one = start_but_mem {asks = asks} begun.goes begun.cause (λ f e o. one-fits (ground e) (ground e).floats (y e) (first e) (others e) (here e (f e o))) in
    let chain = next_but_mem one tried.goes tried.cause (λ f e o.
    subst (λ (t : Tried). TrialFits (ground e) t (others e)) (sym (begun.value e o)) (first-fits (ground e) (first e) (y e) (others e) (here e (f e o)))) in
    record {
      goes = chain.goes;
      value = λ e o.
          ap Some (tried.value e o ∙ ap (other_trials (ground e) (others e)) (begun.value e (tried.goes.closes e o)))
          ∙ ap (λ ws. trial_of (ground e) (y e) (waiting_at at ws e)) (sym list);
      cause = chain.cause;
    }
