use Rattle.std.proofs.Common.{◌≡◌, ◌<◌, ◌↔◌, Bool, false, IsTrue, List, [], ◌∷◌, length, refl, ap, sym, subst, ◌∙◌, arith}
use Rattle.viz_base.specs.declared.renderings.Placed.{Placed}
use Rattle.viz_base.specs.declared.trees.BoxNode.{BoxNode}
use Rattle.viz_calc.proofs.Runs.{Goes-then}
use Rattle.lay_frame.specs.Readings.{boxes_at}
use Rattle.lay_frame.proofs.Slots.{no_boxes}
use Rattle.lay_preferred.proofs.Founds.{found-later}
use Rattle.std.specs.Prelude.{Option, ◌*◌, pos, ℤ}
use Rattle.viz_calc.specs.World.{Reading}
use Rattle.layout_semantics.specs.Flow.{Independent}
use Rattle.lay_steps.specs.Tables.{laid_at}
use Rattle.lay_flow.specs.IndependentFits.{IndependentFits, PageComesFit}
use Rattle.lay_flow.specs.Readings.{apart_at, table_at}
use Rattle.lay_flow.proofs.Givens.{first, more, more_at}
use Rattle.lay_steps.proofs.Tables.{no-boxes}
use Rattle.lay_flow.proofs.TableFacts.{page-laid}
use Rattle.lay_flow.proofs.page.boxes.Goals as goal

some-boxes : (empty : Bool) (boxes : List BoxNode) → (IsTrue empty ↔ (boxes ≡ [])) → empty ≡ false → 0 < length boxes
some-boxes empty [] is e = absurd (let none = is.1 refl in cc)
some-boxes empty (x ∷ xs) is e = omega arith

pub returns-then-is_empty-clause-value : goal.returns-then-is_empty-clause-value
returns-then-is_empty-clause-value g c = λ e o.
    let at = g.S.Steady.at in
    let bare : c.args.tree.now.boxes ≡ [] = grind arith in
    ap (λ (l : List (Placed g.row.S-Num.Denot)). boxes_at at l e) c.new.ensures.items ∙ no_boxes at e ∙ no-boxes c.args.tree.now e.world bare

pub independent-requires-clause-found : goal.independent-requires-clause-found
independent-requires-clause-found g c =
    found-later g.S.Steady.at c.args.tree.now (g.S.Steady.run c.outside_flow-table.new.calc) (g.S.Steady.run c.width-room.new.self) _ c.width-room.ensures.goes c.outside_flow-table.ensures.found

pub returns-clause-goes : goal.returns-clause-goes
returns-clause-goes g c =
    Goes-then _ _ _ (Goes-then _ _ _ (Goes-then _ _ _ c.nothing_found-found.ensures.goes c.outside_flow-table.ensures.goes) c.width-room.ensures.goes) c.independent.ensures.goes

pub returns-clause-value : goal.returns-clause-value
returns-clause-value g c = λ e o.
    let at = g.S.Steady.at in
    let tree = c.args.tree.now in
    let places = c.outside_flow-table.result.places.items in
    let o1 = c.independent.ensures.goes.closes e o in
    let some = some-boxes c.is_empty.result tree.boxes c.is_empty.ensures c.if-is_empty.false in
    let same : c.as_slice.result.now ≡ places = grind arith in
    page-laid at e tree e.world c.as_slice.result.now places c.independent.result (at c.width-room.result e) some same (c.independent.ensures.value e o) (c.width-room.ensures.value e o1)
    (c.outside_flow-table.ensures.value e (c.width-room.ensures.goes.closes e o1))

pub returns-clause-cause : goal.returns-clause-cause
unfolding apart_at
returns-clause-cause g c =
    let at = g.S.Steady.at in
    let tree = c.args.tree.now in
    let some = some-boxes c.is_empty.result tree.boxes c.is_empty.ensures c.if-is_empty.false in
    let same : c.as_slice.result.now ≡ c.outside_flow-table.result.places.items = grind arith in
    let asks = (λ (e : Reading). PageComesFit tree e.world) in
    let found = c.nothing_found-found.ensures in
    let table = c.outside_flow-table.ensures in
    let wide = c.width-room.ensures in
    let laid = c.independent.ensures in
    let one = first {tree = tree} {asks = asks} found.goes found.cause (λ a. tt) in
    let two = more one table.goes table.cause (λ a. (a.0, λ e o. (a.1 e o).table)) in
    let three = more_at two wide.goes wide.cause (λ a e o. (a e o).width) in
    (more three laid.goes laid.cause (λ a. (
      a.0,
      λ e o.
          subst (λ (z : ℤ). IndependentFits tree e.world (laid_at (table_at at c.as_slice.result.now e)) 0 z) (sym (wide.value e o))
          (subst (λ t. IndependentFits tree e.world (laid_at (table_at at t e)) 0 (pos (64 * e.world.w))) (sym same)
          (subst (λ (t : List (Option Independent)). IndependentFits tree e.world (laid_at t) 0 (pos (64 * e.world.w))) (sym (table.value e (wide.goes.closes e o))) ((a.1 e o).root some))),
    ))).cause
