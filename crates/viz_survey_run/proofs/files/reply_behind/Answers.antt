use Rattle.viz_run.proofs.RunLemmas.{given_longer}
use Rattle.viz_survey_run.specs.Words.{cap_of}
use Rattle.viz_survey_run.proofs.FileLemmas.{long_replies}
use Rattle.viz_survey_run.proofs.files.reply_behind.Goals as goal

pub returns-in_ok-report_of_long-in-Ok-Longer-clause-reply : goal.returns-in_ok-report_of_long-in-Ok-Longer-clause-reply
returns-in_ok-report_of_long-in-Ok-Longer-clause-reply g c =
    let told = rw (c.in-Ok-Longer.field-0-is, c.cap.ensures) at c.in-Ok-Longer.ensures.told in
    let loaded = rw (c.in-Ok-Longer.field-0-is, c.cap.ensures) at c.in-Ok-Longer.ensures.loaded in
    let request = c.args.command.request in
    let found = given_longer (g.F.Shelf.files c.args.shelf.now) g.F.Shelf.loads c.args.command.other.now (cap_of request) _ _ told loaded in
    let reply = c.in_ok-report_of_long-in-Ok-Longer.ensures in
    record { other_bytes = found.0; other_given = found.1; reply = long_replies request c.args.job.now found.0 _ _ c.requires found.2 reply.0 reply.1 }
