use Rattle.std.proofs.Common.{◌≡◌, ◌++◌, drop, IsTrue}
use Rattle.viz_calc.specs.World.{Reading}
use Rattle.viz_calc.specs.Run.{Goes, BlamesButMem}
use Rattle.viz_calc.specs.Renderings.{spot_at}
use Rattle.std.specs.List.{AllByRecursion}
use Rattle.page_limits.specs.Bounds.{IsPlacedIn}
use Rattle.lay_flow.specs.Low.{reach}
use Rattle.lay_flow.specs.Fits.{IsSpotNear}
use Rattle.layout_semantics.specs.Rectangles.{shifted}
use Rattle.lay_frame.specs.Readings.{boxes_at}
use Rattle.lay_flow.proofs.floating.add_each.Given as goal

-- what was added, with what is left, is all
abbrev pub invariant-loop-placed : goal.invariant-loop-placed
invariant-loop-placed g l =
    let at = g.S.Steady.at in
    let run = g.S.Steady.run in
    record {
      goes : Goes (run l.initial.calc) (run l.calc);
      value : (e : Reading) → IsTrue ((run l.calc).is_open e)
          → boxes_at at l.out.items e ++ shifted (spot_at at l.by e) (boxes_at at (drop l.placed-index l.boxes) e)
          ≡ boxes_at at l.initial.out.items e ++ shifted (spot_at at l.by e) (boxes_at at l.boxes e);
      cause : BlamesButMem (run l.initial.calc) (run l.calc) ((e : Reading) → IsTrue ((run l.initial.calc).is_open e) → IsSpotNear (spot_at at l.by e) × AllByRecursion (IsPlacedIn reach) (boxes_at at l.boxes e));
    }
