use Rattle.std.proofs.Common.{rules, inl, inr, Result, Err}
use Rattle.viz_base.specs.Numbers.{Rose}
use Rattle.viz_outside.specs.declared.shelf.Loaded.{Loaded}
use Rattle.viz_outside.specs.declared.shelf.ShelfFault.{ShelfFault}
use Rattle.viz_outside.specs.declared.shelf.ShelfFault.TheVariants.{Failed}
use Rattle.viz_replies.specs.Jobs.{job_most}
use Rattle.viz_replies.specs.Certificates.{cert_most}
use Rattle.viz_run.proofs.RunLemmas.{checked_about, check_refused, loads_both, rose_later}
use Rattle.viz_run.proofs.files.check_of_files.Goals as goal

pub returns-in-Ok-clause-reply : goal.returns-in-Ok-clause-reply
returns-in-Ok-clause-reply g c =
    let file = rw c.in-Ok-Read.field-0-is at c.in-Ok-Read.ensures.file in
    let about = rw (c.in-Ok-Read.ensures.files, c.as_slice.ensures) at c.in-Ok.ensures.reply in
    checked_about (record { files = g.F.Shelf.files c.args.shelf.now; loads = g.F.Shelf.loads; old = c.args.shelf.now; new = _ }) c.args.job.now c.args.cert.now _ c.in-Ok-Read.jobs _ _ file about

pub returns-in-Ok-Refused-clause-reply : goal.returns-in-Ok-Refused-clause-reply
returns-in-Ok-Refused-clause-reply g c =
    let file = rw c.in-Ok-Refused.field-0-is at c.in-Ok-Refused.ensures.file in
    check_refused (record { files = g.F.Shelf.files c.args.shelf.now; loads = g.F.Shelf.loads; old = c.args.shelf.now; new = _ }) c.args.job.now c.args.cert.now c.in-Ok-Refused.refusal file

pub returns-in-Err-Failed-reply-clause-cert_unread : goal.returns-in-Err-Failed-reply-clause-cert_unread
returns-in-Err-Failed-reply-clause-cert_unread g c = λ _.
    let file = rw c.in-Ok-Read.field-0-is at c.in-Ok-Read.ensures.file in
    let failed : Rose (g.F.Shelf.faults c.load_jobs.new.shelf) (g.F.Shelf.faults c.reply_by_file-reply.new.shelf) = search rules in
    let missed : g.F.Shelf.loads c.load_jobs.new.shelf c.args.cert.now cert_most (Err Failed) c.reply_by_file-reply.new.shelf = search rules in (
      loads_both (record { files = g.F.Shelf.files c.args.shelf.now; loads = g.F.Shelf.loads; old = c.args.shelf.now; new = _ }) c.args.job.now c.args.cert.now _ c.in-Ok-Read.jobs _ file missed,
      rose_later _ _ _ c.in-Ok-Read.ensures.counts c.reply_by_file-reply.ensures.counts failed,
    )

pub returns-in-Err-Mem-reply-clause-wanting : goal.returns-in-Err-Mem-reply-clause-wanting
returns-in-Err-Mem-reply-clause-wanting g c = λ _.
    let file = rw c.in-Ok-Read.field-0-is at c.in-Ok-Read.ensures.file in
    let last : (answer : Result Loaded ShelfFault) × g.F.Shelf.loads c.load_jobs.new.shelf c.args.cert.now cert_most answer c.reply_by_file-reply.new.shelf = search rules in (
      last.0,
      inr (loads_both (record { files = g.F.Shelf.files c.args.shelf.now; loads = g.F.Shelf.loads; old = c.args.shelf.now; new = _ }) c.args.job.now c.args.cert.now _ c.in-Ok-Read.jobs _ file last.1),
    )

pub returns-in-Err-Mem-clause-wanting : goal.returns-in-Err-Mem-clause-wanting
returns-in-Err-Mem-clause-wanting g c = λ _.
    let only : (answer : Result Loaded ShelfFault) × g.F.Shelf.loads c.args.shelf.now c.args.job.now job_most answer c.load_jobs.new.shelf = search rules in
    (only.0, inl only.1)

pub returns-in-Err-Failed-clause-job_unread : goal.returns-in-Err-Failed-clause-job_unread
returns-in-Err-Failed-clause-job_unread g c = λ _.
    let missed : g.F.Shelf.loads c.args.shelf.now c.args.job.now job_most (Err Failed) c.load_jobs.new.shelf = search rules in
    let failed : Rose (g.F.Shelf.faults c.args.shelf.now) (g.F.Shelf.faults c.load_jobs.new.shelf) = search rules in
    (missed, failed)
