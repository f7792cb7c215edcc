use Rattle.std.proofs.Common.{◌≡◌, ◌-◌, ◌+◌, ◌*◌, length, drop, IsTrue}
use Rattle.viz_calc.specs.World.{Reading}
use Rattle.viz_calc.specs.Run.{Goes, BlamesButMem}
use Rattle.viz_calc.specs.Renderings.{band_at}
use Rattle.lay_margin.specs.Readings.{floats_at}
use Rattle.lay_margin.specs.Runs.{run_at}
use Rattle.lay_flow.specs.Ways.{kids_at_reading, KidsFitAt, Keeps}
use Rattle.lay_flow.proofs.forward.+onward.Given as goal

abbrev pub decreases-kid : goal.decreases-kid
decreases-kid g l = 5 * (length l.way.now.page.now.tree.now.boxes - l.k) + 4

abbrev pub decreases-onward : goal.decreases-onward
decreases-onward g l = 5 * (length l.way.now.page.now.tree.now.boxes - l.b) + 3

abbrev pub decreases-inner : goal.decreases-inner
decreases-inner g l = 5 * (length l.way.now.page.now.tree.now.boxes - l.b) + 2

abbrev pub decreases-content : goal.decreases-content
decreases-content g l = 5 * (length l.way.now.page.now.tree.now.boxes - l.b) + 1

abbrev pub decreases-kids : goal.decreases-kids
decreases-kids g l = 5 * (length l.way.now.page.now.tree.now.boxes - l.b)

abbrev pub invariant-kids-loop-place : goal.invariant-kids-loop-place
invariant-kids-loop-place g l =
    let at = g.S.Steady.at in
    let run = g.S.Steady.run in
    record {
      goes : Goes (run l.initial.calc) (run l.calc);
      so_far : (e : Reading) → IsTrue ((run l.calc).is_open e)
          → kids_at_reading at l.way e (band_at at l.band e) (drop l.place-index l.boxes) (run_at at l.going.run e) (floats_at at l.going.waiting e)
          ≡ kids_at_reading at l.way e (band_at at l.band e) l.boxes (run_at at l.initial.going.run e) (floats_at at l.initial.going.waiting e);
      fits : (e : Reading) → IsTrue ((run l.calc).is_open e)
          → KidsFitAt at l.way e (band_at at l.band e) l.boxes (run_at at l.initial.going.run e) (floats_at at l.initial.going.waiting e)
          → KidsFitAt at l.way e (band_at at l.band e) (drop l.place-index l.boxes) (run_at at l.going.run e) (floats_at at l.going.waiting e);
      keeps : Keeps at l.way (run l.calc) l.going;
      cause : BlamesButMem (run l.initial.calc) (run l.calc) ((e : Reading) → IsTrue ((run l.initial.calc).is_open e)
          → KidsFitAt at l.way e (band_at at l.band e) l.boxes (run_at at l.initial.going.run e) (floats_at at l.initial.going.waiting e));
    }
