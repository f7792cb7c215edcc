use Rattle.std.proofs.Common.{◌≡◌, drop, IsTrue}
use Rattle.std.specs.Prelude.{⊤}
use Rattle.viz_calc.specs.World.{Reading}
use Rattle.viz_calc.specs.Run.{Goes, Blames}
use Rattle.viz_calc.specs.Renderings.{band_at}
use Rattle.lay_float.specs.Readings.{boxes_at}
use Rattle.lay_float.specs.steps.Bands.{room_from}
use Rattle.lay_float.specs.steps.Lent.{room_at}
use Rattle.lay_float.proofs.bands.room_between.Given as goal

-- the room so far, with the floats that are left, is the whole
abbrev pub invariant-loop-f : goal.invariant-loop-f
invariant-loop-f g l =
    let at = g.S.Steady.at in
    let run = g.S.Steady.run in
    record {
      goes : Goes (run l.initial.calc) (run l.calc);
      value : (e : Reading) → IsTrue ((run l.calc).is_open e)
          → room_from (at l.y e) (at l.end e) (boxes_at at (drop l.f-index l.floats) e) (room_at at l.room e)
          ≡ room_from (at l.y e) (at l.end e) (boxes_at at l.floats e) (band_at at l.cb e);
      cause : Blames (run l.fn.calc) (run l.calc) ⊤;
    }
