use Rattle.std.proofs.Common.{◌≡◌, ◌≤◌, length, IsTrue}
use Rattle.viz_calc.specs.World.{Reading}
use Rattle.viz_calc.specs.Run.{Goes, Blames}
use Rattle.lay_width.specs.Readings.{option_at}
use Rattle.lay_preferred.specs.Fitting.{IsHalf, leasts}
use Rattle.lay_preferred.specs.Readings.{parts_at, sizes_at}
use Rattle.lay_preferred.specs.steps.Parts.{widest, least_width}
use Rattle.lay_preferred.proofs.parts.widest_segment.Given as goal

abbrev pub invariant-loop-cut : goal.invariant-loop-cut
invariant-loop-cut g l =
    let at = g.S.Steady.at in
    let run = g.S.Steady.run in
    record {
      goes : Goes (run l.initial.calc) (run l.calc);
      value : (e : Reading) → IsTrue ((run l.calc).is_open e)
          → widest least_width (option_at at l.best e) (parts_at at l.rest.pieces.now l.rest.marks.now e)
          ≡ widest least_width (option_at at l.initial.best e) (parts_at at l.initial.rest.pieces.now l.initial.rest.marks.now e);
      room : (e : Reading) → leasts (sizes_at at l.rest.pieces.now e) ≤ leasts (sizes_at at l.initial.rest.pieces.now e);
      cause : Blames (run l.initial.calc) (run l.calc) ((e : Reading) → IsTrue ((run l.initial.calc).is_open e) → IsHalf (leasts (sizes_at at l.initial.rest.pieces.now e)));
    }

abbrev pub decreases-loop-cut : goal.decreases-loop-cut
decreases-loop-cut g l = length l.rest.pieces.now
