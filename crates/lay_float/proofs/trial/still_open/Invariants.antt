use Rattle.std.proofs.Common.{◌≡◌, ◌++◌, [], drop, IsTrue}
use Rattle.viz_calc.specs.World.{Reading}
use Rattle.viz_calc.specs.Run.{Goes, BlamesButMem}
use Rattle.lay_float.specs.Limits.{AreHalf}
use Rattle.lay_float.specs.Readings.{boxes_at, floats_at}
use Rattle.lay_float.specs.Trials.{reaching}
use Rattle.lay_float.proofs.trial.still_open.Given as goal

-- the floats so far, with those of the rest that end below the level, are all that do
abbrev pub invariant-loop-f : goal.invariant-loop-f
invariant-loop-f g l =
    let at = g.S.Steady.at in
    let run = g.S.Steady.run in
    record {
      goes : Goes (run l.initial.calc) (run l.calc);
      value : (e : Reading) → IsTrue ((run l.calc).is_open e)
          → floats_at at l.out e ++ reaching (at l.level e) (boxes_at at (drop l.f-index l.floats) e) ≡ reaching (at l.level e) (boxes_at at l.floats e);
      cause : BlamesButMem (run l.fn.calc) (run l.calc) ((e : Reading) → IsTrue ((run l.fn.calc).is_open e) → AreHalf (boxes_at at l.floats e) []);
    }
