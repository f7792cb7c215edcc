use Rattle.std.proofs.Common.{◌≡◌, ◌+◌, ◌≤◌, drop, IsTrue}
use Rattle.viz_calc.specs.World.{Reading}
use Rattle.viz_calc.specs.Run.{Goes, Blames}
use Rattle.lay_line.specs.Limits.{ClampFits, held_size, weight}
use Rattle.lay_line.specs.Readings.{held_at, pieces_at}
use Rattle.lay_line.specs.steps.Measured.{held_with}
use Rattle.lay_line.proofs.held.with_pieces.Given as goal

abbrev pub invariant-loop-piece : goal.invariant-loop-piece
invariant-loop-piece g l =
    let at = g.S.Steady.at in
    let run = g.S.Steady.run in
    record {
      goes : Goes (run l.initial.calc) (run l.calc);
      value : (e : Reading) → IsTrue ((run l.calc).is_open e)
          → held_with (held_at at l.held e) (pieces_at at (drop l.piece-index l.pieces) e)
          ≡ held_with (held_at at l.initial.held e) (pieces_at at l.pieces e);
      size : (e : Reading) → IsTrue ((run l.calc).is_open e)
          → held_size (held_at at l.held e) + weight (pieces_at at (drop l.piece-index l.pieces) e)
          ≤ held_size (held_at at l.initial.held e) + weight (pieces_at at l.pieces e);
      cause : Blames (run l.initial.calc) (run l.calc) ((e : Reading) → IsTrue ((run l.initial.calc).is_open e)
          → ClampFits (held_at at l.initial.held e) (pieces_at at l.pieces e));
    }
