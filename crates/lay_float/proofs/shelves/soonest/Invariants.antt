use Rattle.std.proofs.Common.{◌≡◌, drop, None, IsTrue}
use Rattle.std.specs.Prelude.{⊤}
use Rattle.viz_calc.specs.World.{Reading}
use Rattle.viz_calc.specs.Run.{Goes, Blames}
use Rattle.lay_float.specs.Readings.{boxes_at}
use Rattle.lay_float.specs.steps.Lent.{lent_at}
use Rattle.lay_float.specs.steps.Shelves.{soonest}
use Rattle.lay_float.proofs.shelves.soonest.Given as goal

-- the highest bottom so far, with those that are left, is that of all
abbrev pub invariant-loop-f : goal.invariant-loop-f
invariant-loop-f g l =
    let at = g.S.Steady.at in
    let run = g.S.Steady.run in
    record {
      goes : Goes (run l.initial.calc) (run l.calc);
      value : (e : Reading) → IsTrue ((run l.calc).is_open e)
          → soonest (at l.y e) (boxes_at at (drop l.f-index l.floats) e) (lent_at at l.best e)
          ≡ soonest (at l.y e) (boxes_at at l.floats e) None;
      cause : Blames (run l.fn.calc) (run l.calc) ⊤;
    }
