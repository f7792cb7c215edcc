use Rattle.std.proofs.Common.{◌≡◌, ◌++◌, drop, IsTrue}
use Rattle.viz_calc.specs.World.{Reading}
use Rattle.viz_calc.specs.Run.{Goes, BlamesButMem}
use Rattle.lay_line.specs.Contexts.{context_at}
use Rattle.std.specs.List.{AllByRecursion}
use Rattle.lay_line.specs.Items.{items_of, summed_of}
use Rattle.lay_line.specs.Fits.{WidthFits}
use Rattle.lay_line.specs.Readings.{pieces_at}
use Rattle.lay_line.specs.steps.Content.{IsSum}
use Rattle.lay_line.specs.steps.Measured.{measured}
use Rattle.lay_line.specs.steps.Words.{width_in}
use Rattle.lay_line.proofs.sizes.measure.Given as goal

abbrev pub invariant-loop-item : goal.invariant-loop-item
invariant-loop-item g l =
    let at = g.S.Steady.at in
    let run = g.S.Steady.run in
    record {
      goes : Goes (run l.initial.calc) (run l.calc);
      value : (e : Reading) → IsTrue ((run l.calc).is_open e)
          → pieces_at at l.pieces.items e ++ measured (width_in (context_at at l.container e)) (items_of (drop l.item-index l.items))
          ≡ measured (width_in (context_at at l.container e)) (items_of l.items);
      kept : AllByRecursion (IsSum l.container.tree.now) (summed_of (drop l.item-index l.items));
      fits : (e : Reading) → AllByRecursion (WidthFits (context_at at l.container e)) (items_of l.items)
          → AllByRecursion (WidthFits (context_at at l.container e)) (items_of (drop l.item-index l.items));
      cause : BlamesButMem (run l.initial.calc) (run l.calc) ((e : Reading) → IsTrue ((run l.initial.calc).is_open e)
          → AllByRecursion (WidthFits (context_at at l.container e)) (items_of l.items));
    }
