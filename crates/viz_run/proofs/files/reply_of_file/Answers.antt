use Rattle.std.proofs.Common.{inr, rules}
use Rattle.viz_base.specs.Numbers.{Rose}
use Rattle.viz_run.proofs.RunLemmas.{given_whole, given_longer, long_spells_nothing}
use Rattle.viz_run.proofs.files.reply_of_file.Goals as goal

pub returns-in_ok-reply_to-in-Ok-Whole-clause-reply : goal.returns-in_ok-reply_to-in-Ok-Whole-clause-reply
returns-in_ok-reply_to-in-Ok-Whole-clause-reply g c =
    let told = rw c.in-Ok-Whole.field-0-is at c.in-Ok-Whole.ensures.told in
    let few = rw c.in-Ok-Whole.field-0-is at c.in-Ok-Whole.ensures.capped in
    let loaded = rw c.in-Ok-Whole.field-0-is at c.in-Ok-Whole.ensures.loaded in
    record {
      bytes = c.in-Ok-Whole.bytes;
      given = given_whole (g.F.Shelf.files c.args.shelf.now) g.F.Shelf.loads c.args.name.now 16777216 _ _ c.in-Ok-Whole.bytes told few loaded;
      reply = rw c.as_slice.ensures at c.in_ok-reply_to-in-Ok-Whole.ensures.outcome;
    }

pub returns-in_ok-long_job-in-Ok-Longer-clause-reply : goal.returns-in_ok-long_job-in-Ok-Longer-clause-reply
returns-in_ok-long_job-in-Ok-Longer-clause-reply g c =
    let told = rw c.in-Ok-Longer.field-0-is at c.in-Ok-Longer.ensures.told in
    let loaded = rw c.in-Ok-Longer.field-0-is at c.in-Ok-Longer.ensures.loaded in
    let found = given_longer (g.F.Shelf.files c.args.shelf.now) g.F.Shelf.loads c.args.name.now 16777216 _ _ told loaded in
    let reply = c.in_ok-long_job-in-Ok-Longer.ensures in
    record { bytes = found.0; given = found.1; reply = inr (record { refused = reply.0; why = long_spells_nothing found.0 c.args.question.now _ (record { long = found.2; line = reply.1 }) }) }

pub returns-in_err-reply_to-in-Ok-Whole-clause-wanting : goal.returns-in_err-reply_to-in-Ok-Whole-clause-wanting
returns-in_err-reply_to-in-Ok-Whole-clause-wanting g c = λ _. (_, c.in-Ok-Whole.ensures.loaded)

pub returns-in_err-long_job-in-Ok-Longer-clause-wanting : goal.returns-in_err-long_job-in-Ok-Longer-clause-wanting
returns-in_err-long_job-in-Ok-Longer-clause-wanting g c = λ _. (_, c.in-Ok-Longer.ensures.loaded)

pub returns-in-Err-Mem-clause-wanting : goal.returns-in-Err-Mem-clause-wanting
returns-in-Err-Mem-clause-wanting g c = λ _. (_, c.in-Err-Mem.ensures.loaded)

pub returns-in-Err-Failed-clause-unread : goal.returns-in-Err-Failed-clause-unread
returns-in-Err-Failed-clause-unread g c = λ _.
    let missed = rw c.in-Err-Failed.field-0-is at c.in-Err-Failed.ensures.loaded in
    let failed : Rose (g.F.Shelf.faults c.args.shelf.now) (g.F.Shelf.faults c.load.new.self) = search rules in
    (missed, failed)
