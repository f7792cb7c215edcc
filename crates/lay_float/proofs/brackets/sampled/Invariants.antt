use Rattle.std.proofs.Common.{IsTrue}
use Rattle.viz_calc.specs.World.{Reading}
use Rattle.viz_calc.specs.Run.{Goes, Blames}
use Rattle.lay_float.specs.steps.Lent.{bracket_at, FitsAnywhere, KeepsBrackets}
use Rattle.lay_float.proofs.brackets.sampled.Given as goal

-- what was a bracket still is one
abbrev pub invariant-loop-passed : goal.invariant-loop-passed
invariant-loop-passed g l =
    let at = g.S.Steady.at in
    let run = g.S.Steady.run in
    let w = l.wanted in
    record {
      goes : Goes (run l.initial.calc) (run l.calc);
      value : (e : Reading) → IsTrue ((run l.calc).is_open e) → KeepsBrackets at w e (bracket_at at l.bracket e) (bracket_at at l.closer e);
      cause : Blames (run l.fn.calc) (run l.calc) (FitsAnywhere (run l.fn.calc) at w.floats.now w.side w.cb.now w.width.now);
    }
