use Rattle.std.proofs.Common.{ap, ◌∙◌}
use Rattle.viz_calc.proofs.Runs.{Goes-then}
use Rattle.layout_semantics.specs.Lines.{lines_in}
use Rattle.lay_float.specs.Readings.{floats_at}
use Rattle.lay_line.specs.Contexts.{table_at}
use Rattle.lay_line.specs.Contexts as line
use Rattle.lay_line.proofs.Chains.{but_mem, start_but_mem, next_but_mem}
use Rattle.viz_calc.specs.World.{Reading}
use Rattle.viz_calc.specs.Renderings.{band_at}
use Rattle.lay_flow.specs.Readings.{apart_at, context_at}
use Rattle.lay_flow.specs.WalkFits.{InLinesFit}
use Rattle.lay_flow.proofs.LinesMoved.{lines-moved}
use Rattle.lay_flow.proofs.InLines.{lines-named}
use Rattle.lay_flow.proofs.lines.lines_in.Goals as goal

pub returns-clause-goes : goal.returns-clause-goes
returns-clause-goes g c = Goes-then _ _ _ (Goes-then _ _ _ c.inner_table-table.ensures.goes c.least_top-least.ensures.goes) c.lines.ensures.goes

pub returns-clause-value : goal.returns-clause-value
unfolding line.context_at
returns-clause-value g c = λ e o.
    let at = g.S.Steady.at in
    let page = c.args.page.now in
    let s = context_at at c.args.context.now e in
    let o1 = c.lines.ensures.goes.closes e o in
    let o2 = c.least_top-least.ensures.goes.closes e o1 in
    c.lines.ensures.value e o
    ∙ (ap (λ floats. lines_in (line.context_at at (record { tree = page.tree; at = c.args.b; inner = c.as_slice.result; cb = c.args.cb }) e) (at c.args.top.now e) (at c.least_top-least.result e) (floats_at at floats e)) c.replace-floats.ensures.value
    ∙ lines-named page.tree.now e.world (apart_at at page.apart.now e) c.args.b (band_at at c.args.cb.now e) (at c.args.top.now e) (at c.least_top-least.result e) s (table_at at c.as_slice.result.now e)
    (ap (λ t. table_at at t e) c.as_slice.ensures.value ∙ c.inner_table-table.ensures.value e o2) (c.least_top-least.ensures.value e o1))

pub returns-clause-cause : goal.returns-clause-cause
unfolding line.context_at
returns-clause-cause g c =
    let at = g.S.Steady.at in
    let page = c.args.page.now in
    let tree = page.tree.now in
    let b = c.args.b in
    let cb = (λ (e : Reading). band_at at c.args.cb.now e) in
    let y = (λ (e : Reading). at c.args.top.now e) in
    let s = (λ (e : Reading). context_at at c.args.context.now e) in
    let apart = (λ (e : Reading). apart_at at page.apart.now e) in
    let asks = (λ (e : Reading). InLinesFit tree e.world (apart e) b (cb e) (y e) (s e)) in
    let table = c.inner_table-table.ensures in
    let least = c.least_top-least.ensures in
    let lines = c.lines.ensures in
    let one = start_but_mem {asks = asks} table.goes table.cause (λ a e o. (a e o).apart_low) in
    let two = next_but_mem one least.goes (but_mem least.cause) (λ a e o. let x = a e o in (x.least, x.top_near)) in
    (next_but_mem two lines.goes lines.cause (λ a e o.
    lines-moved tree e.world (apart e) b (cb e) (y e) (s e) (table_at at c.as_slice.result.now e) (at c.least_top-least.result e) (floats_at at c.replace-floats.result e)
    (ap (λ t. table_at at t e) c.as_slice.ensures.value ∙ table.value e (least.goes.closes e o)) (least.value e o) (ap (λ floats. floats_at at floats e) c.replace-floats.ensures.value) (a e o).lines)).cause
