use Rattle.std.proofs.Common.{◌≡◌, ◌≤◌, drop, IsTrue}
use Rattle.viz_calc.specs.World.{Reading}
use Rattle.viz_calc.specs.Run.{Goes, Blames}
use Rattle.lay_width.specs.Readings.{option_at}
use Rattle.lay_preferred.specs.Fitting.{IsHalf, leasts}
use Rattle.lay_preferred.specs.Readings.{sizes_at}
use Rattle.lay_preferred.specs.steps.Parts.{widest_float}
use Rattle.lay_preferred.proofs.parts.widest_float.Given as goal

abbrev pub invariant-loop-piece : goal.invariant-loop-piece
invariant-loop-piece g l =
    let at = g.S.Steady.at in
    let run = g.S.Steady.run in
    record {
      goes : Goes (run l.initial.calc) (run l.calc);
      value : (e : Reading) → IsTrue ((run l.calc).is_open e)
          → widest_float (option_at at l.best e) (sizes_at at (drop l.piece-index l.pieces) e) ≡ widest_float (option_at at l.initial.best e) (sizes_at at l.pieces e);
      room : (e : Reading) → leasts (sizes_at at (drop l.piece-index l.pieces) e) ≤ leasts (sizes_at at l.pieces e);
      cause : Blames (run l.initial.calc) (run l.calc) ((e : Reading) → IsTrue ((run l.initial.calc).is_open e) → IsHalf (leasts (sizes_at at l.pieces e)));
    }
