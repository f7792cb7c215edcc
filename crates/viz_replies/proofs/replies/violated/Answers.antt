use Rattle.std.proofs.lemmas.Result.{IfOk-weaker}
use Rattle.viz_replies.proofs.ReplyLemmas.{not_refused, told_there}
use Rattle.viz_replies.proofs.replies.violated.Goals as goal

pub unreachable-requires : goal.unreachable-requires
unreachable-requires c =
    let refusal = rw c.in-Refused.is at c.in_ok-job.ensures in
    not_refused c.one_answer.ensures c.args.bytes.now c.args.world.w c.args.world.s c.requires.job c.in-Refused.field-0.output.items c.requires.spelled refusal.why

pub returns : goal.returns
returns c =
    let there = rw c.in-Read.is at c.in_ok-job.ensures in
    IfOk-weaker c.violation-reply.result _ _
    (λ r h. told_there c.one_answer.ensures c.args.bytes.now c.args.world c.in-Read.job r.answer r.output.items there c.requires h) c.violation-reply.ensures
