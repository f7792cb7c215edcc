use Rattle.std.proofs.Common.{◌^◌, IsTrue, sym, subst}
use Rattle.viz_calc.specs.World.{Reading}
use Rattle.viz_calc.proofs.Runs.{Goes-then}
use Rattle.lay_line.proofs.Chains.{but_mem}
use Rattle.lay_preferred.specs.Fitting.{BoxesFit}
use Rattle.lay_preferred.proofs.Founds.{found-later}
use Rattle.page_limits.specs.Boxes.{AreWidthsSmall, AreSidesSmall}
use Rattle.lay_flow.specs.Fits.{IsShapeFit}
use Rattle.lay_flow.proofs.Following.{first, then}
use Rattle.lay_flow.proofs.Sizes.{aside-fits}
use Rattle.lay_flow.proofs.independent.corner_shape.Goals as goal

pub returns-clause-found : goal.returns-clause-found
returns-clause-found g c =
    let run = g.S.Steady.run in
    let r1 = run c.widths-x.new.calc in
    let r2 = run c.verticals-v.new.calc in
    let r3 = run c.copy-left.new.self in
    let r4 = run c.copy-top.new.self in
    let goes = Goes-then r1 r3 r4 (Goes-then r1 r2 r3 c.verticals-v.ensures.goes c.copy-left.ensures.goes) c.copy-top.ensures.goes in
    found-later g.S.Steady.at c.args.tree.now r1 r4 _ goes c.widths-x.ensures.found

pub returns-clause-cause : goal.returns-clause-cause
returns-clause-cause g c =
    let at = g.S.Steady.at in
    let run = g.S.Steady.run in
    let tree = c.args.tree.now in
    let fits = (λ (e : Reading). IsShapeFit tree e.world c.args.b (at c.args.room.now e)) in
    let All = BoxesFit tree (run c.args.calc.now).is_open × ((e : Reading) → IsTrue ((run c.args.calc.now).is_open e) → fits e) in
    let x = c.widths-x.ensures in
    let v = c.verticals-v.ensures in
    let left = c.copy-left.ensures in
    let top = c.copy-top.ensures in
    let one = first {more = All} x.goes x.cause (λ f. f) in
    let two = then one v.goes (but_mem v.cause) (λ so_far f e o. (f.1 e (so_far.closes e o)).down) in
    let three = then two left.goes (but_mem left.cause) (λ so_far f e o.
    let small = subst (AreWidthsSmall (2 ^ 90)) (sym (x.value e (v.goes.closes e o))) (f.1 e (so_far.closes e o)).widths in
    aside-fits (at c.widths-x.result.margin_left e) small.margin_left) in
    (then three top.goes (but_mem top.cause) (λ so_far f e o.
    let small = subst (AreSidesSmall (2 ^ 90)) (sym (v.value e (left.goes.closes e o))) (f.1 e (so_far.closes e o)).sides in
    aside-fits (at c.verticals-v.result.margin_top e) small.margin_top)).cause
