use Rattle.std.proofs.Common.{◌≡◌, ◌+◌, ◌≤◌, drop, IsTrue}
use Rattle.viz_calc.specs.World.{Reading}
use Rattle.viz_calc.specs.Run.{Goes, Blames}
use Rattle.lay_line.specs.Readings.{held_at}
use Rattle.lay_line.specs.Limits.{held_size}
use Rattle.lay_preferred.specs.Fitting.{IsHalf, leasts}
use Rattle.lay_preferred.specs.Readings.{sizes_at}
use Rattle.lay_preferred.specs.steps.Parts.{held_least}
use Rattle.lay_preferred.proofs.parts.least_held.Given as goal

abbrev pub invariant-loop-piece : goal.invariant-loop-piece
invariant-loop-piece g l =
    let at = g.S.Steady.at in
    let run = g.S.Steady.run in
    record {
      goes : Goes (run l.initial.calc) (run l.calc);
      value : (e : Reading) → IsTrue ((run l.calc).is_open e)
          → held_least (held_at at l.held e) (sizes_at at (drop l.piece-index l.part) e)
          ≡ held_least (held_at at l.initial.held e) (sizes_at at l.part e);
      room : (e : Reading) → IsTrue ((run l.calc).is_open e)
          → held_size (held_at at l.held e) + leasts (sizes_at at (drop l.piece-index l.part) e) ≤ held_size (held_at at l.initial.held e) + leasts (sizes_at at l.part e);
      cause : Blames (run l.initial.calc) (run l.calc) ((e : Reading) → IsTrue ((run l.initial.calc).is_open e) → IsHalf (held_size (held_at at l.initial.held e) + leasts (sizes_at at l.part e)));
    }
