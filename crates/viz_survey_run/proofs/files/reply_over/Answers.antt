use Rattle.std.proofs.Common.{◌∙◌, ap, inl}
use Rattle.viz_run.proofs.RunLemmas.{given_longer}
use Rattle.viz_survey_run.specs.Statuses.{answer_of_reply}
use Rattle.viz_survey_run.proofs.files.reply_over.Goals as goal

pub returns-in_ok-long_job-in-Ok-Longer-clause-reply : goal.returns-in_ok-long_job-in-Ok-Longer-clause-reply
returns-in_ok-long_job-in-Ok-Longer-clause-reply g c =
    let told = rw c.in-Ok-Longer.field-0-is at c.in-Ok-Longer.ensures.told in
    let loaded = rw c.in-Ok-Longer.field-0-is at c.in-Ok-Longer.ensures.loaded in
    let found = given_longer (g.F.Shelf.files c.args.shelf.now) g.F.Shelf.loads c.args.command.job.now 16777216 _ _ told loaded in
    let long = c.in_ok-long_job-in-Ok-Longer.ensures in
    let made = c.of_reply.ensures in
    inl (record {
      bytes = found.0;
      given = found.1;
      long = record { long = found.2; line = ap (λ v. v.items) made.1 ∙ long.1 };
      answer_is = made.0 ∙ ap answer_of_reply long.0;
    })
