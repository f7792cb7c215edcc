use Rattle.std.proofs.Common.{◌≡◌, ◌++◌, drop, None, IsTrue}
use Rattle.viz_calc.specs.World.{Reading}
use Rattle.viz_calc.specs.Run.{Goes, BlamesButMem}
use Rattle.lay_line.specs.Contexts.{context_at}
use Rattle.lay_line.specs.LineFits.{BoxesFit, SetFits, SpotsOnLine}
use Rattle.lay_line.specs.Readings.{entries_at, places_at, spots_at, set_line_at, before_at}
use Rattle.lay_line.specs.steps.Entries.{items_in}
use Rattle.lay_line.proofs.entries.add_items.Given as goal

abbrev pub invariant-loop-place : goal.invariant-loop-place
invariant-loop-place g l =
    let at = g.S.Steady.at in
    let run = g.S.Steady.run in
    record {
      goes : Goes (run l.initial.calc) (run l.calc);
      value : (e : Reading) → IsTrue ((run l.calc).is_open e)
          → entries_at at l.entries e ++ items_in (context_at at l.container e) (set_line_at at l.line e) (before_at at l.before e) (places_at at (drop l.place-index l.line.places.now) e) (spots_at at l.spots e)
          ≡ entries_at at l.initial.entries e ++ items_in (context_at at l.container e) (set_line_at at l.line e) None (places_at at l.line.places.now e) (spots_at at l.line.spots.now e);
      count : l.count ≡ l.place-index;
      spots : (e : Reading) → SpotsOnLine (spots_at at l.line.spots.now e) → SpotsOnLine (spots_at at l.spots e);
      cause : BlamesButMem (run l.initial.calc) (run l.calc) ((e : Reading) → IsTrue ((run l.initial.calc).is_open e)
          → BoxesFit (context_at at l.container e) × SetFits (set_line_at at l.line e));
    }
