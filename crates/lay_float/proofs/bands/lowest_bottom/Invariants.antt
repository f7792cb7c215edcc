use Rattle.std.proofs.Common.{◌≡◌, ◌||◌, drop, is_some, None, IsTrue}
use Rattle.std.specs.Prelude.{⊤}
use Rattle.std.specs.List.{list_any}
use Rattle.viz_calc.specs.World.{Reading}
use Rattle.viz_calc.specs.Run.{Goes, Blames}
use Rattle.lay_float.specs.Readings.{boxes_at}
use Rattle.lay_float.specs.steps.Bands.{is_relevant_side, lowest_from}
use Rattle.lay_float.specs.steps.Lent.{lent_at}
use Rattle.lay_float.proofs.bands.lowest_bottom.Given as goal

-- the lowest bottom so far, with those that are left, is that of all
abbrev pub invariant-loop-f : goal.invariant-loop-f
invariant-loop-f g l =
    let at = g.S.Steady.at in
    let run = g.S.Steady.run in
    record {
      goes : Goes (run l.initial.calc) (run l.calc);
      value : (e : Reading) → IsTrue ((run l.calc).is_open e)
          → lowest_from l.clear (boxes_at at (drop l.f-index l.floats) e) (lent_at at l.best e)
          ≡ lowest_from l.clear (boxes_at at l.floats e) None;
      some : (is_some l.best || list_any (λ f. is_relevant_side l.clear f.side) (drop l.f-index l.floats)) ≡ list_any (λ f. is_relevant_side l.clear f.side) l.floats;
      cause : Blames (run l.fn.calc) (run l.calc) ⊤;
    }
