use Rattle.std.proofs.Common.{◌≡◌, ◌-◌, length, drop, IsTrue}
use Rattle.viz_calc.specs.World.{Reading}
use Rattle.viz_calc.specs.Run.{Goes, Blames}
use Rattle.std.specs.List.{AllByRecursion}
use Rattle.page_limits.specs.Bounds.{IsFloatIn}
use Rattle.lay_flow.specs.Low.{reach}
use Rattle.lay_flow.specs.Fits.{IsNear}
use Rattle.lay_float.specs.Readings.{boxes_at}
use Rattle.lay_steps.specs.Flow.{lowest_of}
use Rattle.lay_flow.proofs.heights.lowest.Given as goal

-- the last ones so far
abbrev pub invariant-loop-done : goal.invariant-loop-done
invariant-loop-done g l =
    let at = g.S.Steady.at in
    let run = g.S.Steady.run in
    record {
      goes : Goes (run l.fn.calc) (run l.calc);
      value : (e : Reading) → IsTrue ((run l.calc).is_open e) → at l.best e ≡ lowest_of (at l.top e) (boxes_at at (drop (length l.floats - l.done) l.floats) e);
      cause : Blames (run l.fn.calc) (run l.calc) ((e : Reading) → IsTrue ((run l.fn.calc).is_open e) → IsNear (at l.top e) × AllByRecursion (IsFloatIn reach) (boxes_at at l.floats e));
    }
