use Rattle.std.proofs.Common.{◌≡◌, drop, fold, None, IsTrue}
use Rattle.viz_calc.specs.World.{Reading}
use Rattle.viz_calc.specs.Run.{Goes, Blames}
use Rattle.lay_line.specs.Contexts.{context_at}
use Rattle.lay_float.specs.Readings.{boxes_at, option_at}
use Rattle.lay_line.specs.Limits.{RoomFits}
use Rattle.lay_line.specs.steps.Meeting.{stands_at as stands_in}
use Rattle.lay_line.specs.steps.Tops.{with_float}
use Rattle.lay_line.proofs.tops.highest_below.Given as goal

abbrev pub invariant-loop-f : goal.invariant-loop-f
invariant-loop-f g l =
    let at = g.S.Steady.at in
    let run = g.S.Steady.run in
    record {
      goes : Goes (run l.initial.calc) (run l.calc);
      value : (e : Reading) → IsTrue ((run l.calc).is_open e)
          → fold (with_float (stands_in (context_at at l.wanted.container.now e) (boxes_at at l.wanted.floats.now e) (at l.wanted.tall.now e) (at l.wanted.width.now e)) (at l.wanted.y.now e)) (option_at at l.best e) (boxes_at at (drop l.f-index l.wanted.floats.now) e)
          ≡ fold (with_float (stands_in (context_at at l.wanted.container.now e) (boxes_at at l.wanted.floats.now e) (at l.wanted.tall.now e) (at l.wanted.width.now e)) (at l.wanted.y.now e)) None (boxes_at at l.wanted.floats.now e);
      cause : Blames (run l.initial.calc) (run l.calc) ((e : Reading) → IsTrue ((run l.initial.calc).is_open e)
          → RoomFits (context_at at l.wanted.container.now e) (boxes_at at l.wanted.floats.now e) (at l.wanted.y.now e) (at l.wanted.tall.now e));
    }
