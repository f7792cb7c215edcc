use Rattle.std.proofs.Common.{inl}
use Rattle.std.proofs.lemmas.Result.{IfOk-weaker}
use Rattle.viz_replies.proofs.replies.laid.Goals as goal

pub returns-in-Read : goal.returns-in-Read
returns-in-Read c =
    let there = rw c.in-Read.is at c.in_ok-job.ensures in
    IfOk-weaker c.boxes-reply.result _ _ (λ r h. inl (rw h.0 (record { job = c.in-Read.job; spelled = there; text = h.1 }))) c.boxes-reply.ensures
