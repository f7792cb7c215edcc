use Rattle.std.proofs.Common.{◌≡◌, drop, IsTrue}
use Rattle.viz_calc.specs.World.{Reading}
use Rattle.viz_calc.specs.Run.{Goes, BlamesButMem}
use Rattle.lay_float.specs.Limits.{IsHalf}
use Rattle.lay_float.specs.Readings.{floats_at}
use Rattle.lay_line.specs.Contexts.{context_at}
use Rattle.lay_line.specs.Limits.{PlacesFit}
use Rattle.lay_line.specs.Readings.{met_at, slot_at}
use Rattle.lay_line.specs.steps.Meeting.{met_all}
use Rattle.lay_line.proofs.meeting.meet_each.Given as goal

abbrev pub invariant-loop-at : goal.invariant-loop-at
invariant-loop-at g l =
    let at = g.S.Steady.at in
    let run = g.S.Steady.run in
    record {
      goes : Goes (run l.initial.calc) (run l.calc);
      value : (e : Reading) → IsTrue ((run l.calc).is_open e)
          → met_all (context_at at l.container e) (slot_at at l.slot e) (at l.held e) (met_at at l.met e) (drop l.at-index l.boxes)
          ≡ met_all (context_at at l.container e) (slot_at at l.slot e) (at l.held e) (met_at at l.initial.met e) l.boxes;
      fits : (e : Reading) → IsTrue ((run l.calc).is_open e)
          → PlacesFit (context_at at l.container e) (floats_at at l.initial.met.floats e) (at l.slot.least e) (at l.slot.top e) l.boxes
          → PlacesFit (context_at at l.container e) (floats_at at l.met.floats e) (at l.slot.least e) (at l.slot.top e) (drop l.at-index l.boxes);
      cause : BlamesButMem (run l.initial.calc) (run l.calc) ((e : Reading) → IsTrue ((run l.initial.calc).is_open e)
          → PlacesFit (context_at at l.container e) (floats_at at l.initial.met.floats e) (at l.slot.least e) (at l.slot.top e) l.boxes × IsHalf (at l.slot.tall e));
    }
