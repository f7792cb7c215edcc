use Rattle.std.proofs.Common.{◌≡◌, ◌≤◌, ◌-◌, ◌+◌, ◌*◌, ◌++◌, length, map, drop, IsTrue}
use Rattle.std.specs.Prelude.{sum}
use Rattle.std.specs.List.{AllByRecursion}
use Rattle.viz_calc.specs.World.{Reading}
use Rattle.viz_calc.specs.Run.{Goes, BlamesButMem}
use Rattle.layout_semantics.specs.Order.{kids_of}
use Rattle.layout_semantics.specs.InlineContent.{is_floated_at}
use Rattle.lay_line.specs.Items.{items_of, summed_of}
use Rattle.lay_line.specs.steps.Content.{IsSum}
use Rattle.layout_semantics.specs.Preferred.{blocks, inside_of}
use Rattle.lay_preferred.specs.Fitting.{ItemFits, BoxesFit}
use Rattle.lay_preferred.specs.Readings.{sizes_at, column_at, AreFound}
use Rattle.lay_preferred.specs.steps.Columns.{with_children}
use Rattle.lay_preferred.specs.steps.Outer.{outer}
use Rattle.lay_preferred.specs.steps.Parts.{sized, widths_of, IsInside}
use Rattle.lay_preferred.proofs.Sizes.{run_reach}
use Rattle.lay_preferred.proofs.engine.+preferred.Given as goal

abbrev pub decreases-outer : goal.decreases-outer
decreases-outer g l = 6 * (length l.tree.now.boxes - l.at) + 5

abbrev pub decreases-preferred : goal.decreases-preferred
decreases-preferred g l = 6 * (length l.tree.now.boxes - l.b) + 4

abbrev pub decreases-computed : goal.decreases-computed
decreases-computed g l = 6 * (length l.tree.now.boxes - l.b) + 3

abbrev pub decreases-of_inline : goal.decreases-of_inline
decreases-of_inline g l = 6 * (length l.tree.now.boxes - l.b) + 2

abbrev pub decreases-measure : goal.decreases-measure
decreases-measure g l = 6 * (length l.tree.now.boxes - l.b) + 1

abbrev pub decreases-item_widths : goal.decreases-item_widths
decreases-item_widths g l = 6 * (length l.tree.now.boxes - l.b)

abbrev pub decreases-of_blocks : goal.decreases-of_blocks
decreases-of_blocks g l = 6 * (length l.tree.now.boxes - l.b) + 2

abbrev pub invariant-measure-loop-item : goal.invariant-measure-loop-item
invariant-measure-loop-item g l =
    let at = g.S.Steady.at in
    let run = g.S.Steady.run in
    record {
      goes : Goes (run l.initial.calc) (run l.calc);
      found : AreFound at (run l.calc) l.tree l.found.widths.items;
      kept : AllByRecursion (IsSum l.tree) (summed_of (drop l.item-index l.items));
      inside : AllByRecursion (IsInside l.tree l.b) (items_of (drop l.item-index l.items));
      value : (e : Reading) → IsTrue ((run l.calc).is_open e)
          → sizes_at at l.pieces.items e ++ sized (widths_of l.tree e.world) (items_of (drop l.item-index l.items)) ≡ sized (widths_of l.tree e.world) (items_of l.items);
      cause : BlamesButMem (run l.initial.calc) (run l.calc)
          (BoxesFit l.tree (run l.initial.calc).is_open × ((e : Reading) → IsTrue ((run l.initial.calc).is_open e) → AllByRecursion (ItemFits l.tree e.world) (items_of l.items)));
    }

abbrev pub invariant-of_blocks-loop-kid : goal.invariant-of_blocks-loop-kid
invariant-of_blocks-loop-kid g l =
    let at = g.S.Steady.at in
    let run = g.S.Steady.run in
    record {
      goes : Goes (run l.initial.calc) (run l.calc);
      found : AreFound at (run l.calc) l.tree l.found.widths.items;
      value : (e : Reading) → IsTrue ((run l.calc).is_open e)
          → with_children (is_floated_at l.tree) (outer l.tree e.world) (column_at at l.column e) (drop l.kid-index (kids_of l.tree.boxes l.b))
          ≡ with_children (is_floated_at l.tree) (outer l.tree e.world) (column_at at l.initial.column e) (kids_of l.tree.boxes l.b);
      room : (f : BoxesFit l.tree (run l.initial.calc).is_open) (e : Reading) → IsTrue ((run l.calc).is_open e)
          → run_reach (column_at at l.column e).floats + sum (map f.cap (drop l.kid-index (kids_of l.tree.boxes l.b))) ≤ sum (map f.cap (kids_of l.tree.boxes l.b));
      cause : BlamesButMem (run l.initial.calc) (run l.calc) (BoxesFit l.tree (run l.initial.calc).is_open × (inside_of l.tree l.b ≡ blocks));
    }
