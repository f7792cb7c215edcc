use Rattle.std.proofs.Common.{◌≤◌, length, arith}
use Rattle.viz_replies.specs.Jobs.{SpellJobs}
use Rattle.viz_replies.proofs.PartLemmas.{parts_of_bytes}
use Rattle.viz_replies.proofs.jobs.read_jobs.Goals as goal

pub returns-in-Ok : goal.returns-in-Ok
returns-in-Ok c =
    let short : length c.args.bytes.now ≤ 16777216 = omega arith in
    let spelled : SpellJobs c.args.bytes.now c.in-Ok.jobs = record { short = short; read = c.in-Ok.ensures } in
    let parts = parts_of_bytes c.parts_tell.ensures.tell c.parts_tell.ensures.ranges c.args.bytes.now c.in-Ok.jobs spelled in
    record { spelled = spelled; some = parts.some; few = parts.few }
