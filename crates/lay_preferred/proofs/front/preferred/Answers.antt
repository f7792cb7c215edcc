use Rattle.std.proofs.Common.{IsTrue, subst, arith}
use Rattle.viz_calc.specs.World.{Reading}
use Rattle.viz_calc.specs.Run.{unless}
use Rattle.viz_calc.proofs.Runs.{BlamesButMem-then}
use Rattle.lay_preferred.specs.Fitting.{AreSmallBoxes}
use Rattle.viz_calc.proofs.Blamed.{ButMem-given}
use Rattle.lay_preferred.proofs.Causes.{fits-closed}
use Rattle.lay_preferred.proofs.SmallBoxes.{boxes-fit}
use Rattle.lay_preferred.proofs.front.preferred.Goals as goal

pub returns-clause-cause : goal.returns-clause-cause
returns-clause-cause g c =
    let state = g.C.Calc.state in
    let tree = c.args.tree.now in
    let latch = c.new-latch.result in
    let first = c.nothing_found-found.ensures in
    let all = c.preferred-widths.ensures in
    let lent : (e : Reading) → IsTrue (unless latch.halt ((state latch.calc.now).is_open e)) → IsTrue ((state c.args.calc.now).is_open e) =
    λ e o.
    subst (λ k. IsTrue ((state k).is_open e)) c.new-latch.ensures.now
    (subst (λ h. IsTrue (unless h ((state latch.calc.now).is_open e))) c.new-latch.ensures.halt o) in
    let blames = BlamesButMem-then _ _ _ _ (AreSmallBoxes tree (state c.args.calc.now).is_open) first.goes all.goes
    (ButMem-given _ _ _ _ (λ f. tt) first.cause)
    (λ f. fits-closed tree _ _ (λ e o. lent e (first.goes.closes e o)) (boxes-fit tree (state c.args.calc.now).is_open f))
    all.cause in
    let halt = c.finish.ensures.halt in
    grind arith
