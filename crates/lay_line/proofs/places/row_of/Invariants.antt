use Rattle.std.proofs.Common.{◌≡◌, ◌+◌, ◌≤◌, drop, IsTrue}
use Rattle.std.specs.Prelude.{unsigned_abs}
use Rattle.viz_calc.specs.World.{Reading}
use Rattle.viz_calc.specs.Run.{Goes, BlamesButMem}
use Rattle.lay_line.specs.Limits.{StandFits, weight}
use Rattle.lay_line.specs.Readings.{pieces_at, row_at}
use Rattle.lay_line.specs.steps.Measured.{rows}
use Rattle.lay_line.proofs.places.row_of.Given as goal

abbrev pub invariant-loop-piece : goal.invariant-loop-piece
invariant-loop-piece g l =
    let at = g.S.Steady.at in
    let run = g.S.Steady.run in
    record {
      goes : Goes (run l.initial.calc) (run l.calc);
      value : (e : Reading) → IsTrue ((run l.calc).is_open e)
          → rows (row_at at l.row e) (pieces_at at (drop l.piece-index l.pieces) e)
          ≡ rows (row_at at l.initial.row e) (pieces_at at l.pieces e);
      size : (e : Reading) → IsTrue ((run l.calc).is_open e)
          → unsigned_abs (at l.row.x e) + weight (pieces_at at (drop l.piece-index l.pieces) e)
          ≤ unsigned_abs (at l.initial.row.x e) + weight (pieces_at at l.pieces e);
      cause : BlamesButMem (run l.initial.calc) (run l.calc) ((e : Reading) → IsTrue ((run l.initial.calc).is_open e)
          → StandFits (at l.initial.row.x e) (pieces_at at l.pieces e));
    }
