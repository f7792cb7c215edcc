use Rattle.std.proofs.Common.{◌≡◌, length, IsTrue}
use Rattle.std.specs.Prelude.{⊤}
use Rattle.viz_calc.specs.World.{Reading}
use Rattle.viz_calc.specs.Run.{Goes, Blames}
use Rattle.lay_float.specs.Readings.{boxes_at}
use Rattle.lay_float.specs.steps.Shelves.{open_from}
use Rattle.lay_float.proofs.shelves.open_from.Given as goal

-- the floats so far end above the top
abbrev pub invariant-loop-first : goal.invariant-loop-first
invariant-loop-first g l =
    let at = g.S.Steady.at in
    let run = g.S.Steady.run in
    record {
      goes : Goes (run l.initial.calc) (run l.calc);
      value : (e : Reading) → IsTrue ((run l.calc).is_open e) → open_from (at l.y e) (boxes_at at l.rest e) ≡ open_from (at l.y e) (boxes_at at l.floats e);
      cause : Blames (run l.fn.calc) (run l.calc) ⊤;
    }

abbrev pub decreases-loop-first : goal.decreases-loop-first
decreases-loop-first g l = length l.rest
