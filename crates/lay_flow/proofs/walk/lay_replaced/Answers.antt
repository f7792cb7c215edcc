use Rattle.std.proofs.Common.{◌^◌, ◌+◌, ◌∷◌, [], sym, subst, arith}
use Rattle.viz_base.specs.declared.renderings.Placed.{Placed}
use Rattle.std.specs.Prelude.{ℤ}
use Rattle.viz_calc.specs.State.{AllSmall}
use Rattle.viz_calc.specs.World.{Reading}
use Rattle.layout_semantics.specs.Replaced.{replaced_size}
use Rattle.lay_frame.specs.Fitting.{border_of}
use Rattle.lay_frame.specs.Readings.{frame_at}
use Rattle.lay_float.specs.Readings.{option_at}
use Rattle.lay_line.proofs.Chains.{start_but_mem, next_but_mem, but_mem}
use Rattle.lay_flow.specs.Low.{AreLevelsLow, IsFrameLow}
use Rattle.lay_flow.specs.Fits.{IsNear, IsReplacedFit}
use Rattle.lay_steps.specs.Flow.{replaced_of}
use Rattle.lay_flow.proofs.Framed.{top-fits, top-near, border-small}
use Rattle.lay_flow.proofs.Sizes.{wider, fit, zero-fits}
use Rattle.lay_flow.proofs.walk.lay_replaced.Goals as goal

pub returns-clause-cause : goal.returns-clause-cause
unfolding replaced_of
returns-clause-cause g c =
    let at = g.S.Steady.at in
    let tree = c.args.page.now.tree.now in
    let b = c.args.b in
    let frame = (λ (e : Reading). frame_at at c.args.shape.now e) in
    let room = (λ (e : Reading). at c.args.room.now e) in
    let height = (λ (e : Reading). (replaced_size tree e.world b (room e)).height) in
    let asks = (λ (e : Reading). IsReplacedFit tree e.world b (room e) × (AreLevelsLow (option_at at c.args.context.now.least e) × IsFrameLow (frame e))) in
    let top = c.content_top-top.ensures in
    let standing = c.below-standing.ensures in
    let opened = c.open.ensures in
    let placed = c.replaced_box-placed.ensures in
    let bottom = c.copy-bottom.ensures in
    let run = c.empty-run.ensures in
    let one = start_but_mem {asks = asks} top.goes (but_mem top.cause) (λ f e o. top-fits (frame e) (f e o).1.1) in
    let two = next_but_mem one standing.goes (but_mem standing.cause) (λ f e o. subst IsNear (sym (top.value e o)) (top-near (frame e) (f e o).1.1)) in
    let three = next_but_mem two opened.goes (but_mem opened.cause) (λ f e o. (f e o).1) in
    let four = next_but_mem three placed.goes (but_mem placed.cause) (λ f e o. ((f e o).0, (f e o).1.1)) in
    let five = next_but_mem four bottom.goes (but_mem bottom.cause) (λ f e o.
    let a = f e o in
    let tall = wider (2 ^ 90) (2 ^ 94) (height e) a.0.tall (omega arith) in
    subst (λ (p : Placed ℤ). AllSmall (p.border.bottom ∷ [])) (sym (placed.value e o)) (fit (2 ^ 94 + 2 ^ 93 + 2 ^ 90) (border_of (frame e) (height e)).bottom (border-small (frame e) (height e) a.1.1 tall).bottom (omega arith))) in
    let six = next_but_mem five c.append.ensures.goes c.append.ensures.cause (λ f e o. tt) in
    let seven = next_but_mem six run.goes (but_mem run.cause) (λ f e o. zero-fits) in
    (next_but_mem seven c.closing-margins.ensures.goes (but_mem c.closing-margins.ensures.cause) (λ f e o. (f e o).1.1)).cause
