use Rattle.std.proofs.Common.{arith, length-drop}
use Rattle.std.proofs.lemmas.List.{take_rest}
use Rattle.viz_outside.proofs.SinkLemmas.{grown-further}
use Rattle.viz_outside.proofs.sink.write_all.Goals as goal

pub loop-done-preserved : goal.loop-done-preserved
loop-done-preserved g c =
    let rest = take_rest c.args.bytes.now c.loop-done.done in
    let within = rw rest at c.in_ok-taken.ensures.within in
    let grows = rw rest at c.in_ok-taken.ensures.grows in
    record {
      within = omega (arith, simp length-drop at within);
      grows = grown-further _ _ _ c.args.bytes.now c.loop-done.done c.in_ok-taken.taken c.loop-done.invariant.grows grows;
      counts = omega (arith, c.in_ok-taken.ensures.counts);
      uncalled = λ none. absurd (omega (arith, none));
    }
