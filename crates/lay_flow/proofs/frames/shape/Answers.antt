use Rattle.std.proofs.Common.{◌^◌, ℤ, IsTrue, sym, subst}
use Rattle.viz_calc.specs.World.{Reading}
use Rattle.viz_calc.specs.Renderings.{band_at}
use Rattle.layout_semantics.specs.FlowBoxes.{inline_size}
use Rattle.lay_line.proofs.Chains.{but_mem}
use Rattle.lay_preferred.specs.Fitting.{BoxesFit}
use Rattle.lay_preferred.proofs.Causes.{fits-later}
use Rattle.page_limits.specs.Boxes.{AreWidthsSmall}
use Rattle.lay_flow.specs.Low.{IsBandLow, IsLevelLow}
use Rattle.lay_flow.specs.Fits.{IsShapeFit}
use Rattle.lay_flow.proofs.Following.{first, then}
use Rattle.lay_flow.proofs.Sizes.{aside-near, level-fits, near-difference, near-sum}
use Rattle.lay_flow.proofs.frames.shape.Goals as goal

pub returns-clause-cause : goal.returns-clause-cause
returns-clause-cause g c =
    let at = g.S.Steady.at in
    let run = g.S.Steady.run in
    let tree = c.args.page.now.tree.now in
    let cb = c.args.cb.now in
    let fits = (λ (e : Reading) (z : ℤ). IsShapeFit tree e.world c.args.b z) in
    let asks = (λ (e : Reading). IsBandLow (band_at at cb e) × (IsLevelLow (at c.args.top.now e) × fits e (inline_size (band_at at cb e)))) in
    let All = BoxesFit tree (run c.args.calc.now).is_open × ((e : Reading) → IsTrue ((run c.args.calc.now).is_open e) → asks e) in
    let room = c.inline_size-room.ensures in
    let x = c.widths-x.ensures in
    let v = c.verticals-v.ensures in
    let left = c.add-left.ensures in
    let top = c.copy-top.ensures in
    let shaped = (λ (e : Reading) (o : IsTrue ((run c.inline_size-room.new.calc).is_open e)) (a : asks e). subst (fits e) (sym (room.value e o)) a.1.1) in
    let one = first {more = All} room.goes (but_mem room.cause) (λ f e o.
    let band = (f.1 e o).0 in
    near-difference (at cb.right e) (at cb.left e) (aside-near (at cb.right e) band.right) (aside-near (at cb.left e) band.left)) in
    let two = then one x.goes x.cause (λ so_far f. (fits-later tree (run c.args.calc.now) (run c.inline_size-room.new.calc) so_far f.0, λ e o. shaped e o (f.1 e (so_far.closes e o)))) in
    let three = then two v.goes (but_mem v.cause) (λ so_far f e o. (shaped e (x.goes.closes e o) (f.1 e (so_far.closes e o))).down) in
    let four = then three left.goes (but_mem left.cause) (λ so_far f e o.
    let a = f.1 e (so_far.closes e o) in
    let o2 = v.goes.closes e o in
    let small = subst (AreWidthsSmall (2 ^ 90)) (sym (x.value e o2)) (shaped e (x.goes.closes e o2) a).widths in
    near-sum (at cb.left e) (at c.widths-x.result.margin_left e) (aside-near (at cb.left e) a.0.left) (aside-near (at c.widths-x.result.margin_left e) small.margin_left)) in
    (then four top.goes (but_mem top.cause) (λ so_far f e o. level-fits (at c.args.top.now e) (f.1 e (so_far.closes e o)).1.0)).cause
