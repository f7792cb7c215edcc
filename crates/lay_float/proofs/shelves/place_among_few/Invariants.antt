use Rattle.std.proofs.Common.{◌≡◌, ◌-◌, length, IsTrue}
use Rattle.viz_calc.specs.World.{Reading}
use Rattle.viz_calc.specs.Run.{Goes, Blames}
use Rattle.viz_calc.specs.Renderings.{band_at}
use Rattle.lay_float.specs.Readings.{boxes_at}
use Rattle.lay_float.specs.steps.Lent.{FitsAnywhere}
use Rattle.lay_float.specs.steps.Shelves.{free_top}
use Rattle.lay_float.proofs.shelves.place_among_few.Given as goal

-- the top that is found from here is that of all
abbrev pub invariant-loop-passed : goal.invariant-loop-passed
invariant-loop-passed g l =
    let at = g.S.Steady.at in
    let run = g.S.Steady.run in
    record {
      goes : Goes (run l.initial.calc) (run l.calc);
      value : (e : Reading) → IsTrue ((run l.calc).is_open e)
          → free_top (length l.floats - l.passed) (boxes_at at l.floats e) l.side (at l.width e) (band_at at l.cb e) (at l.y e)
          ≡ free_top (length l.floats) (boxes_at at l.floats e) l.side (at l.width e) (band_at at l.cb e) (at l.high e);
      cause : Blames (run l.fn.calc) (run l.calc) (FitsAnywhere (run l.fn.calc) at l.floats l.side l.cb l.width);
    }
