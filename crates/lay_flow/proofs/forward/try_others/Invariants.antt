use Rattle.std.proofs.Common.{◌≡◌, drop, IsTrue}
use Rattle.viz_calc.specs.World.{Reading}
use Rattle.viz_calc.specs.Run.{Goes, BlamesButMem}
use Rattle.lay_margin.specs.Readings.{floats_at as waiting_at}
use Rattle.lay_float.specs.TrialReadings.{trial_at}
use Rattle.lay_flow.specs.Tries.{other_trials, TrialFits}
use Rattle.lay_flow.specs.Ways.{ground_at}
use Rattle.lay_flow.proofs.forward.try_others.Given as goal

-- trying those that are left gives what trying all gives
abbrev pub invariant-loop-float : goal.invariant-loop-float
invariant-loop-float g l =
    let at = g.S.Steady.at in
    let run = g.S.Steady.run in
    record {
      goes : Goes (run l.initial.calc) (run l.calc);
      value : (e : Reading) → IsTrue ((run l.calc).is_open e)
          → other_trials (ground_at at l.way e) (waiting_at at (drop l.float-index l.waiting) e) (trial_at at l.trial e)
          ≡ other_trials (ground_at at l.way e) (waiting_at at l.waiting e) (trial_at at l.initial.trial e);
      fits : (e : Reading) → IsTrue ((run l.calc).is_open e)
          → TrialFits (ground_at at l.way e) (trial_at at l.initial.trial e) (waiting_at at l.waiting e)
          → TrialFits (ground_at at l.way e) (trial_at at l.trial e) (waiting_at at (drop l.float-index l.waiting) e);
      cause : BlamesButMem (run l.initial.calc) (run l.calc) ((e : Reading) → IsTrue ((run l.initial.calc).is_open e)
          → TrialFits (ground_at at l.way e) (trial_at at l.initial.trial e) (waiting_at at l.waiting e));
    }
