use Rattle.std.proofs.Common.{Some, map, sym, ap, ◌∙◌, arith}
use Rattle.viz_calc.specs.World.{Reading}
use Rattle.viz_calc.proofs.Runs.{Goes-then, Blames-then}
use Rattle.lay_width.specs.Readings.{option_at}
use Rattle.lay_preferred.specs.Fitting.{leasts}
use Rattle.lay_preferred.specs.Readings.{parts_at, sizes_at}
use Rattle.lay_preferred.specs.steps.Extremes.{larger}
use Rattle.lay_preferred.specs.steps.Parts.{widest, least_width}
use Rattle.lay_preferred.proofs.PartLoops.{leasts-joined}
use Rattle.lay_preferred.proofs.parts.widest_segment.Goals as goal

pub loop-cut-preserved : goal.loop-cut-preserved
loop-cut-preserved g c =
    let at = g.S.Steady.at in
    let run = g.S.Steady.run in
    let cut = c.in-Some.cut in
    let before = c.loop-cut.invariant in
    let width = c.least_width-width.ensures in
    let more = c.larger.ensures in
    let first = c.in-Some.ensures.0 in
    let r0 = run c.args.calc.now in
    let r1 = run c.loop-cut.calc in
    let r2 = run c.least_width-width.new.calc in
    let r3 = run c.larger.new.calc in
    let to_width = Goes-then r0 r1 r2 before.goes width.goes in
    let joined = λ (e : Reading). ap (λ ps. leasts (sizes_at at ps e)) first.joined ∙ leasts-joined at e cut.first.now cut.rest.pieces.now in
    record {
      goes = Goes-then r0 r2 r3 to_width more.goes;
      value = λ e o.
          let o2 = more.goes.closes e o in
          let o1 = width.goes.closes e o2 in
          let parts = ap (λ ps. map (λ part. sizes_at at part e) ps) first.parts in
          let taken = more.value e o ∙ ap (larger (option_at at c.loop-cut.best e)) (width.value e o2) in
          ap (λ x. widest least_width (Some x) (parts_at at cut.rest.pieces.now cut.rest.marks.now e)) taken
          ∙ ap (widest least_width (option_at at c.loop-cut.best e)) (sym parts)
          ∙ before.value e o1;
      room = λ e. let all = joined e in let so_far = before.room e in omega (arith, all, so_far);
      cause = Blames-then r0 r2 r3 _ _ to_width more.goes
          (Blames-then r0 r1 r2 _ _ before.goes width.goes before.cause
          (λ f e o. let half = f e (before.goes.closes e o) in let so_far = before.room e in let all = joined e in omega (arith, half, so_far, all)) width.cause)
          (λ f e o. tt) more.cause;
    }
