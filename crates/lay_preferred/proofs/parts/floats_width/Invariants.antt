use Rattle.std.proofs.Common.{◌≡◌, ◌+◌, ◌≤◌, unsigned_abs, drop, IsTrue}
use Rattle.viz_calc.specs.World.{Reading}
use Rattle.viz_calc.specs.Run.{Goes, Blames}
use Rattle.lay_preferred.specs.Fitting.{IsHalf, mosts}
use Rattle.lay_preferred.specs.Readings.{sizes_at}
use Rattle.lay_preferred.specs.steps.Parts.{floats_from}
use Rattle.lay_preferred.proofs.parts.floats_width.Given as goal

abbrev pub invariant-loop-piece : goal.invariant-loop-piece
invariant-loop-piece g l =
    let at = g.S.Steady.at in
    let run = g.S.Steady.run in
    record {
      goes : Goes (run l.initial.calc) (run l.calc);
      value : (e : Reading) → IsTrue ((run l.calc).is_open e)
          → floats_from (at l.sum e) (sizes_at at (drop l.piece-index l.part) e) ≡ floats_from (at l.initial.sum e) (sizes_at at l.part e);
      room : (e : Reading) → IsTrue ((run l.calc).is_open e)
          → unsigned_abs (at l.sum e) + mosts (sizes_at at (drop l.piece-index l.part) e) ≤ unsigned_abs (at l.initial.sum e) + mosts (sizes_at at l.part e);
      cause : Blames (run l.initial.calc) (run l.calc) ((e : Reading) → IsTrue ((run l.initial.calc).is_open e) → IsHalf (unsigned_abs (at l.initial.sum e) + mosts (sizes_at at l.part e)));
    }
