use Rattle.std.proofs.Common.{◌≡◌, drop, IsTrue}
use Rattle.std.specs.Prelude.{⊤}
use Rattle.viz_calc.specs.World.{Reading}
use Rattle.viz_calc.specs.Run.{Goes, Blames}
use Rattle.viz_calc.specs.Renderings.{band_at}
use Rattle.lay_float.specs.Readings.{boxes_at}
use Rattle.lay_float.specs.steps.Lent.{shelf_at}
use Rattle.lay_float.specs.steps.Shelves.{shelf_from, shelf_on}
use Rattle.lay_float.proofs.shelves.shelf_on.Given as goal

-- the shelf so far, with the floats that are left, is the whole
abbrev pub invariant-loop-f : goal.invariant-loop-f
invariant-loop-f g l =
    let at = g.S.Steady.at in
    let run = g.S.Steady.run in
    record {
      goes : Goes (run l.initial.calc) (run l.calc);
      value : (e : Reading) → IsTrue ((run l.calc).is_open e)
          → shelf_from l.side (at l.y e) (boxes_at at (drop l.f-index l.floats) e) (shelf_at at l.shelf e)
          ≡ shelf_on (boxes_at at l.floats e) l.side (band_at at l.cb e) (at l.y e);
      cause : Blames (run l.fn.calc) (run l.calc) ⊤;
    }
