use Rattle.std.proofs.Common.{◌≡◌, ◌<◌, ℕ, false, List, length, sym, subst, arith}
use Rattle.std.specs.List.{AllByRecursion}
use Rattle.lay_steps.specs.Tables.{outside_of}
use Rattle.lay_preferred.proofs.Founds.{found-closed}
use Rattle.viz_base.specs.Trees.{is_inline}
use Rattle.viz_calc.specs.World.{Reading}
use Rattle.layout_semantics.specs.Blocks.{kind_of}
use Rattle.lay_flow.specs.IndependentFits.{BoxesAddedFit, ContainerFits}
use Rattle.lay_flow.specs.Readings.{table_at}
use Rattle.lay_flow.proofs.Givens.{first}
use Rattle.lay_steps.proofs.Tables.{outside-within}
use Rattle.lay_flow.proofs.page.add_container.Goals as goal

pub add_boxes-requires-clause-within : goal.add_boxes-requires-clause-within
add_boxes-requires-clause-within g c =
    let tree = c.args.tree.now in
    let items : c.as_slice.result.now ≡ outside_of tree c.args.b = grind arith in
    subst (λ (ks : List ℕ). AllByRecursion (λ (k : ℕ). k < length tree.boxes) ks) (sym items) (outside-within tree c.args.b)

pub returns-in-Err-clause-found : goal.returns-in-Err-clause-found
returns-in-Err-clause-found g c = found-closed g.S.Steady.at c.args.tree.now (g.S.Steady.run c.stop.new.self) _ c.stop.ensures.closed

pub returns-in-Ok-clause-cause : goal.returns-in-Ok-clause-cause
returns-in-Ok-clause-cause g c =
    let at = g.S.Steady.at in
    let tree = c.args.tree.now in
    let table = (λ (e : Reading). table_at at c.args.table.now.places.items e) in
    let asks = (λ (e : Reading). ContainerFits tree e.world (table e) c.args.b) in
    let items : c.as_slice.result.now ≡ outside_of tree c.args.b = grind arith in
    let block : is_inline (kind_of tree c.args.b) ≡ false = grind arith in
    (first {tree = tree} {asks = asks} c.add_boxes.ensures.goes c.add_boxes.ensures.cause (λ a. (
      a.0,
      λ e o.
          subst (λ (ks : List ℕ). BoxesAddedFit tree e.world (table e) ks) (sym items) (a.1 e o block),
    ))).cause
