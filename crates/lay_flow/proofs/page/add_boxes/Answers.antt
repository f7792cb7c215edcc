use Rattle.std.proofs.Common.{◌<◌, ◌+◌, ℕ, List, drop, length, Option, ap, sym, subst, ◌∙◌, arith}
use Rattle.viz_calc.specs.World.{Reading}
use Rattle.viz_calc.proofs.Runs.{Goes-then, BlamesButMem-then}
use Rattle.layout_semantics.specs.Flow.{Independent}
use Rattle.lay_flow.specs.IndependentFits.{BoxesAddedFit}
use Rattle.lay_flow.specs.Readings.{table_at}
use Rattle.lay_steps.specs.Tables.{with_boxes}
use Rattle.lay_flow.proofs.Givens.{boxes-later}
use Rattle.lay_steps.proofs.KidSteps.{others-hold, boxes-next}
use Rattle.lay_flow.proofs.KidSteps.{added-next}
use Rattle.lay_flow.proofs.page.add_boxes.Goals as goal

pub loop-k-preserved : goal.loop-k-preserved
loop-k-preserved g c =
    let at = g.S.Steady.at in
    let tree = c.args.tree.now in
    let boxes = c.args.boxes.now in
    let i = c.loop-k.k-index in
    let within : i < length boxes = grind arith in
    let inv = c.loop-k.invariant in
    let own = c.add_box.ensures in
    let table = (λ (e : Reading). table_at at c.loop-k.table.places.items e) in
    let next = (λ (e : Reading) (f : BoxesAddedFit tree e.world (table e) (drop i boxes)). added-next tree e.world (table e) boxes i within f) in
    record {
      goes = Goes-then _ _ _ inv.goes own.goes;
      found = own.found;
      within = others-hold (λ (k : ℕ). k < length tree.boxes) boxes i within inv.within;
      value = λ e o.
          ap (λ (x : List (Option Independent)). with_boxes tree e.world x (drop (i + 1) boxes)) (own.value e o)
          ∙ sym (boxes-next tree e.world (table e) boxes i within)
          ∙ inv.value e (own.goes.closes e o);
      left = λ a e o.
          subst (λ (x : List (Option Independent)). BoxesAddedFit tree e.world x (drop (i + 1) boxes)) (sym (own.value e o)) (next e (inv.left a e (own.goes.closes e o))).1;
      cause = BlamesButMem-then _ _ _ _ _ inv.goes own.goes inv.cause (λ a. (boxes-later tree _ _ inv.goes a.0, λ e o. (next e (inv.left a.1 e o)).0)) own.cause;
    }
