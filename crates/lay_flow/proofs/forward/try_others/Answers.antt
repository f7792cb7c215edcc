use Rattle.std.proofs.Common.{◌≡◌, ℕ, ◌<◌, ◌+◌, List, ◌∷◌, drop, get_or, length, ap, sym, subst, ◌∙◌}
use Rattle.std.proofs.lemmas.List.{drop_more}
use Rattle.viz_calc.specs.World.{Reading}
use Rattle.viz_calc.proofs.Runs.{Goes-then, BlamesButMem-then}
use Rattle.lay_float.proofs.Loops.{goes-on}
use Rattle.lay_margin.specs.Readings.{floats_at as waiting_at, waiting_at as waiting_in}
use Rattle.lay_float.specs.TrialReadings.{trial_at}
use Rattle.lay_float.specs.Trials.{Tried}
use Rattle.lay_flow.specs.Tries.{other_trials, TrialFits}
use Rattle.lay_flow.specs.Ways.{ground_at}
use Rattle.lay_flow.proofs.TriesLow.{next-fits, one-fits}
use Rattle.lay_flow.proofs.forward.try_others.Goals as goal

-- the next float and those after it
next-item : {N : Type 0} (all : List N) (k : ℕ) (float : N) → k < length all → float ≡ get_or all k float → drop k all ≡ float ∷ drop (k + 1) all
next-item all k float l is = drop_more all k float l ∙ ap (λ f. f ∷ drop (k + 1) all) (sym is)

pub loop-float-preserved : goal.loop-float-preserved
loop-float-preserved g c =
    let at = g.S.Steady.at in
    let run = g.S.Steady.run in
    let tried = c.try_next-trial.ensures in
    let inv = c.loop-float.invariant in
    let all = c.args.waiting.now in
    let k = c.loop-float.float-index in
    let float = c.float-item.result in
    let is = next-item all k float c.loop-float-test.true c.float-item.is in
    let ground = (λ (e : Reading). ground_at at c.args.way.now e) in
    let one = (λ (e : Reading). waiting_in at float e) in
    let rest = (λ (e : Reading). waiting_at at (drop (k + 1) all) e) in
    let before = (λ (e : Reading). trial_at at c.loop-float.trial e) in
    let here = (λ (e : Reading) (f : TrialFits (ground e) (before e) (waiting_at at (drop k all) e)). subst (λ ws. TrialFits (ground e) (before e) (waiting_at at ws e)) is f) in
    record {
      goes = Goes-then _ _ _ inv.goes tried.goes;
      value = λ e o.
          goes-on (λ ws t. other_trials (ground e) (waiting_at at ws e) t) all k float
          (before e) (trial_at at c.try_next-trial.result e) c.loop-float-test.true c.float-item.is
          (ap (λ t. other_trials (ground e) (rest e) t) (sym (tried.value e o)))
          ∙ inv.value e (tried.goes.closes e o);
      fits = λ e o f.
          subst (λ (t : Tried). TrialFits (ground e) t (rest e)) (sym (tried.value e o))
          (next-fits (ground e) (one e) (before e) (rest e) (here e (inv.fits e (tried.goes.closes e o) f)));
      cause = BlamesButMem-then _ _ _ _ _ inv.goes tried.goes inv.cause
          (λ f e o. one-fits (ground e) (before e).near (before e).level (one e) (rest e) (here e (inv.fits e o (f e (inv.goes.closes e o)))))
          tried.cause;
    }
