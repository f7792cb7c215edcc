use Rattle.std.proofs.Common.{take, [], arith, length-drop}
use Rattle.std.proofs.lemmas.List.{take_rest}
use Rattle.viz_outside.proofs.ByteLemmas.{appends_none, appends_further, appends_no_more}
use Rattle.viz_outside.proofs.out_sink.put.Goals as goal

pub loop-init : goal.loop-init
loop-init g c = record { within = omega arith; written = appends_none (g.W.Write.contents c.args.to.now) c.args.bytes.now }

pub loop-preserved : goal.loop-preserved
loop-preserved g c =
    let rest = take_rest c.args.bytes.now c.loop.done in
    let within = rw rest at c.in-Some.ensures.within in
    let written = rw rest at c.in-Some.ensures.written in
    record {
      within = omega (arith, simp length-drop at within);
      written = appends_further _ _ _ c.args.bytes.now c.loop.done c.in-Some.taken c.loop.invariant.written written;
    }

pub returns-in-None-clause-written : goal.returns-in-None-clause-written
returns-in-None-clause-written g c =
    appends_no_more _ _ _ (take c.loop.done c.args.bytes.now) [] c.loop.invariant.written c.in-None.ensures.written
