use Rattle.std.proofs.Common.{◌≡◌, drop, IsTrue}
use Rattle.std.specs.Prelude.{⊤}
use Rattle.std.specs.List.{list_any}
use Rattle.viz_calc.specs.World.{Reading}
use Rattle.viz_calc.specs.Run.{Goes, Blames}
use Rattle.lay_float.specs.Readings.{boxes_at}
use Rattle.lay_flow.specs.Levels.{hinders}
use Rattle.lay_flow.proofs.level.any_hinders.Given as goal

-- no float so far hinders
abbrev pub invariant-loop-f : goal.invariant-loop-f
invariant-loop-f g l =
    let at = g.S.Steady.at in
    let run = g.S.Steady.run in
    record {
      goes : Goes (run l.initial.calc) (run l.calc);
      value : (e : Reading) → IsTrue ((run l.calc).is_open e)
          → list_any (hinders (at l.from e) (at l.to e)) (boxes_at at (drop l.f-index l.floats) e)
          ≡ list_any (hinders (at l.from e) (at l.to e)) (boxes_at at l.floats e);
      cause : Blames (run l.fn.calc) (run l.calc) ⊤;
    }
