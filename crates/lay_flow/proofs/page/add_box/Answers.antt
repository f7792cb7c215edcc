use Rattle.std.proofs.Common.{◌≡◌, ℕ, ℤ, suc, ◌+◌, ap, sym, subst, ◌∙◌, arith}
use Rattle.viz_calc.specs.World.{Reading}
use Rattle.layout_semantics.specs.FlowBoxes.{room_to}
use Rattle.lay_steps.specs.Tables.{laid_at}
use Rattle.lay_flow.specs.IndependentFits.{IndependentFits, BoxAddedFits, RoomFits}
use Rattle.lay_flow.specs.Readings.{apart_at, table_at}
use Rattle.lay_flow.proofs.Givens.{first, more}
use Rattle.viz_calc.proofs.Runs.{Goes-then}
use Rattle.lay_flow.proofs.TableFacts.{box-added}
use Rattle.lay_flow.proofs.page.add_box.Goals as goal

pub returns-clause-goes : goal.returns-clause-goes
returns-clause-goes g c = Goes-then _ _ _ c.room-room.ensures.goes c.independent-laid.ensures.goes

pub returns-clause-value : goal.returns-clause-value
returns-clause-value g c = λ e o.
    let at = g.S.Steady.at in
    let tree = c.args.tree.now in
    let levels : c.from.result + 1 ≡ suc c.args.k = grind arith in
    let same : c.as_slice.result.now ≡ c.args.table.now.places.items = grind arith in
    box-added at e tree e.world c.args.table.now.places.items c.keep.new.table.places.items c.as_slice.result.now c.args.k (c.from.result + 1) c.independent-laid.result (at c.room-room.result e)
    c.keep.ensures same (c.independent-laid.ensures.value e o) levels (c.room-room.ensures.value e (c.independent-laid.ensures.goes.closes e o))

pub returns-clause-cause : goal.returns-clause-cause
unfolding apart_at
returns-clause-cause g c =
    let at = g.S.Steady.at in
    let tree = c.args.tree.now in
    let k = c.args.k in
    let table = (λ (e : Reading). table_at at c.args.table.now.places.items e) in
    let asks = (λ (e : Reading). BoxAddedFits tree e.world (table e) k) in
    let levels : c.from.result + 1 ≡ suc k = grind arith in
    let same : c.as_slice.result.now ≡ c.args.table.now.places.items = grind arith in
    let wide = c.room-room.ensures in
    let laid = c.independent-laid.ensures in
    let one = first {tree = tree} {asks = asks} wide.goes wide.cause (λ a. (
      a.0,
      λ e o.
          subst (λ (n : ℕ). RoomFits tree e.world n k) (sym levels) (a.1 e o).around,
    )) in
    (more one laid.goes laid.cause (λ a. (
      a.0,
      λ e o.
          subst (λ (z : ℤ). IndependentFits tree e.world (laid_at (table_at at c.as_slice.result.now e)) k z) (sym (wide.value e o ∙ ap (λ (n : ℕ). room_to n tree e.world k) levels))
          (subst (λ t. IndependentFits tree e.world (laid_at (table_at at t e)) k (room_to (suc k) tree e.world k)) (sym same) (a.1 e o).own),
    ))).cause
