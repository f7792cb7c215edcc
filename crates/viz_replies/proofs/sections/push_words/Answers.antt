use Rattle.std.proofs.Common.{arith}
use Rattle.viz_replies.proofs.Joins.{with_a_word}
use Rattle.viz_replies.proofs.sections.push_words.Goals as goal

pub loop-preserved : goal.loop-preserved
loop-preserved c =
    with_a_word c.args.out.now.items c.loop.out.items _ c.loop.counter (omega arith) c.loop.invariant c.in_ok-extend_from_slice-2.ensures.items
