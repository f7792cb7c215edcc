use Rattle.std.proofs.Common.{◌∙◌, ap, length, sym}
use Rattle.std.proofs.lemmas.Result.{IfOk-weaker}
use Rattle.viz_base.specs.declared.jobs.Job.{Job}
use Rattle.viz_replies.specs.Replies.{reject_line}
use Rattle.viz_replies.proofs.ReplyLemmas.{there_is, wrong_part}
use Rattle.viz_replies.proofs.checks.verdict_reply.Goals as goal

pub bounds-jobs-part : goal.bounds-jobs-part
bounds-jobs-part c = let judged = rw c.in-Rejected.is at c.requires.1 in wrong_part judged.wrong

pub bounds-jobs-part-in-Rejected : goal.bounds-jobs-part-in-Rejected
bounds-jobs-part-in-Rejected c = λ _. let judged = rw c.in-Rejected.is at c.requires.1 in wrong_part judged.wrong

pub returns-in-Rejected : goal.returns-in-Rejected
returns-in-Rejected c =
    let judged = rw c.in-Rejected.is at c.requires.1 in
    let there = there_is c.args.jobs.now c.in-Rejected.part c.index-jobs-part.result (wrong_part judged.wrong) c.index-jobs-part.is in
    let same = ap (λ (job : Job). reject_line job.form (length c.args.jobs.now) c.in-Rejected.part c.in-Rejected.reject) (sym c.index-jobs-part.is) in
    IfOk-weaker c.rejection.result _ _ (λ r h. rw c.in-Rejected.is (c.index-jobs-part.result, there, h.0, h.1 ∙ same)) c.rejection.ensures
