use Rattle.std.proofs.Common.{inl}
use Rattle.std.proofs.lemmas.Result.{IfOk-weaker}
use Rattle.viz_replies.proofs.ReplyLemmas.{on_trial}
use Rattle.viz_replies.proofs.trials.tried_on_bytes.Goals as goal

pub returns-in-Read : goal.returns-in-Read
returns-in-Read c =
    let read = rw c.in-Read.is at c.in_ok-jobs.ensures in
    IfOk-weaker c.tried-reply.result _ _
    (λ r h. inl (on_trial c.args.bytes.now c.in-Read.jobs c.as_slice.result.now c.args.turns r.answer r.output.items read.spelled c.as_slice.ensures h)) c.tried-reply.ensures
