use Rattle.std.proofs.Common.{◌≡◌, inl, Err, subst}
use Rattle.viz_outside.specs.declared.shelf.ShelfFault.TheVariants.{Failed}
use Rattle.viz_run.proofs.RunLemmas.{given_whole, given_longer}
use Rattle.viz_run.proofs.files.load_jobs.Goals as goal

pub returns-in_ok-read_jobs-in-Ok-Whole-clause-file : goal.returns-in_ok-read_jobs-in-Ok-Whole-clause-file
returns-in_ok-read_jobs-in-Ok-Whole-clause-file g c =
    let told = rw c.in-Ok-Whole.field-0-is at c.in-Ok-Whole.ensures.told in
    let few = rw c.in-Ok-Whole.field-0-is at c.in-Ok-Whole.ensures.capped in
    let loaded = rw c.in-Ok-Whole.field-0-is at c.in-Ok-Whole.ensures.loaded in
    record {
      bytes = c.in-Ok-Whole.bytes;
      given = given_whole (g.F.Shelf.files c.args.shelf.now) g.F.Shelf.loads c.args.name.now 16777216 _ _ c.in-Ok-Whole.bytes told few loaded;
      reads = rw c.as_slice.ensures at c.in_ok-read_jobs-in-Ok-Whole.ensures;
    }

pub returns-in_ok-long_job-in-Ok-Longer-clause-file : goal.returns-in_ok-long_job-in-Ok-Longer-clause-file
returns-in_ok-long_job-in-Ok-Longer-clause-file g c =
    let told = rw c.in-Ok-Longer.field-0-is at c.in-Ok-Longer.ensures.told in
    let loaded = rw c.in-Ok-Longer.field-0-is at c.in-Ok-Longer.ensures.loaded in
    let found = given_longer (g.F.Shelf.files c.args.shelf.now) g.F.Shelf.loads c.args.name.now 16777216 _ _ told loaded in
    let reply = c.in_ok-long_job-in-Ok-Longer.ensures in
    record { bytes = found.0; given = found.1; reads = record { refused = reply.0; why = inl (record { long = found.2; line = reply.1 }) } }

pub returns-in-Err-clause-unread : goal.returns-in-Err-clause-unread
returns-in-Err-clause-unread g c = λ is.
    let same : c.in-Err.fault ≡ Failed = cc in
    subst (λ fault. g.F.Shelf.loads c.args.shelf.now c.args.name.now 16777216 (Err fault) c.load.new.self) same c.in-Err.ensures.loaded

pub returns-in_err-read_jobs-in-Ok-Whole-clause-wanting : goal.returns-in_err-read_jobs-in-Ok-Whole-clause-wanting
returns-in_err-read_jobs-in-Ok-Whole-clause-wanting g c = λ _. (_, c.in-Ok-Whole.ensures.loaded)

pub returns-in_err-long_job-in-Ok-Longer-clause-wanting : goal.returns-in_err-long_job-in-Ok-Longer-clause-wanting
returns-in_err-long_job-in-Ok-Longer-clause-wanting g c = λ _. (_, c.in-Ok-Longer.ensures.loaded)

pub returns-in-Err-clause-wanting : goal.returns-in-Err-clause-wanting
returns-in-Err-clause-wanting g c = λ _. (_, c.in-Err.ensures.loaded)
