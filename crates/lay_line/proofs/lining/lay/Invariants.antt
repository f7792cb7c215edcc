use Rattle.std.proofs.Common.{◌≡◌, ◌++◌, ◌-◌, IsTrue}
use Rattle.viz_calc.specs.World.{Reading}
use Rattle.viz_calc.specs.Run.{Goes, BlamesButMem}
use Rattle.lay_line.specs.Contexts.{context_at}
use Rattle.lay_line.specs.LinesFit.{RestFits}
use Rattle.lay_line.specs.Lining.{so_far_at}
use Rattle.lay_line.specs.Readings.{pieces_at, parts_at, entries_at}
use Rattle.lay_line.specs.steps.Leaping.{AreWide}
use Rattle.lay_line.specs.steps.Lining.{laying}
use Rattle.lay_line.proofs.lining.lay.Given as goal

abbrev pub invariant-loop-line : goal.invariant-loop-line
invariant-loop-line g l =
    let at = g.S.Steady.at in
    let run = g.S.Steady.run in
    record {
      goes : Goes (run l.initial.calc) (run l.calc);
      after : (e : Reading) → IsTrue ((run l.calc).is_open e)
          → (laying (l.count - l.line) (context_at at l.frame.container.now e) (at l.frame.tall e) (so_far_at at l.now e) (parts_at at l.rest e)).after
          ≡ (laying l.count (context_at at l.frame.container.now e) (at l.frame.tall e) (so_far_at at l.initial.now e) (parts_at at l.initial.rest e)).after;
      added : (e : Reading) → IsTrue ((run l.calc).is_open e)
          → entries_at at l.entries e ++ (laying (l.count - l.line) (context_at at l.frame.container.now e) (at l.frame.tall e) (so_far_at at l.now e) (parts_at at l.rest e)).entries
          ≡ entries_at at l.initial.entries e ++ (laying l.count (context_at at l.frame.container.now e) (at l.frame.tall e) (so_far_at at l.initial.now e) (parts_at at l.initial.rest e)).entries;
      fits : (e : Reading) → IsTrue ((run l.calc).is_open e)
          → RestFits (context_at at l.frame.container.now e) (at l.frame.tall e) (so_far_at at l.initial.now e) (pieces_at at l.initial.rest.pieces.now e)
          → RestFits (context_at at l.frame.container.now e) (at l.frame.tall e) (so_far_at at l.now e) (pieces_at at l.rest.pieces.now e);
      wide : (e : Reading) → IsTrue ((run l.calc).is_open e) → AreWide (pieces_at at l.rest.pieces.now e);
      cause : BlamesButMem (run l.initial.calc) (run l.calc) ((e : Reading) → IsTrue ((run l.initial.calc).is_open e)
          → RestFits (context_at at l.frame.container.now e) (at l.frame.tall e) (so_far_at at l.initial.now e) (pieces_at at l.initial.rest.pieces.now e));
    }
