use Rattle.std.proofs.Common.{ℤ, IsTrue, sym, subst}
use Rattle.viz_calc.specs.World.{Reading}
use Rattle.viz_calc.proofs.Runs.{Goes-then, BlamesButMem-then}
use Rattle.viz_calc.proofs.Blamed.{Blames-but-mem}
use Rattle.lay_frame.specs.Fitting.{KeptFits, PlaceFits}
use Rattle.lay_frame.specs.Readings.{frame_at}
use Rattle.lay_frame.proofs.lists.keep.Goals as goal

pub returns-clause-cause : goal.returns-clause-cause
returns-clause-cause g c =
    let at = g.S.Steady.at in
    let run = g.S.Steady.run in
    let frame = (λ (e : Reading). frame_at at c.args.shape.now e) in
    let r0 = run c.args.calc.now in
    let r1 = run c.zero-flat.new.calc in
    let r2 = run c.place-first.new.calc in
    let flat = c.zero-flat.ensures in
    let placed = c.place-first.ensures in
    let All = (e : Reading) → IsTrue (r0.is_open e) → KeptFits (frame e) in
    let by1 = Blames-but-mem r0 r1 _ All (λ f e o. (f e o).0) flat.cause in
    let by2 = BlamesButMem-then r0 r1 r2 _ All flat.goes placed.goes by1
    (λ f e o. subst (λ (z : ℤ). PlaceFits (frame e) z) (sym (flat.value e o)) (f e (flat.goes.closes e o)).1) (Blames-but-mem r1 r2 _ _ (λ f. f) placed.cause) in
    BlamesButMem-then r0 r2 (run c.append.new.calc) _ All (Goes-then r0 r1 r2 flat.goes placed.goes) c.append.ensures.goes by2 (λ f e o. tt) c.append.ensures.cause
