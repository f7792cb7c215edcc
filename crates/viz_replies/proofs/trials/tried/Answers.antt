use Rattle.std.proofs.Common.{drop}
use Rattle.std.proofs.lemmas.Result.{IfOk-weaker}
use Rattle.viz_replies.proofs.ReplyLemmas.{first_of, of_trial}
use Rattle.viz_replies.proofs.trials.tried.Goals as goal

pub returns : goal.returns
returns c =
    let job = c.index-jobs-0.result in
    let first = first_of c.args.jobs.now job c.requires.some c.index-jobs-0.is in
    IfOk-weaker c.search_of_trial-reply.result _ _
    (λ r h. (job, drop 1 c.args.jobs.now, first, of_trial c.args.turns job c.args.jobs.now c.in_ok-found.found r.answer r.output.items c.in_ok-found.ensures h)) c.search_of_trial-reply.ensures
