use Rattle.std.proofs.Common.{◌≢◌, rules}
use Rattle.page_build.specs.declared.faults.JobRefusal.TheVariants.{Mem}
use Rattle.page_build.specs.Jobs.{AreRefusedAs}
use Rattle.page_build.proofs.PartStages.{jobs_from, unread}
use Rattle.page_build.proofs.parts.build_parts.Goals as goal

pub returns-in_err-file : goal.returns-in_err-file
returns-in_err-file c =
    let refusal = c.in_err-file.field-0.0 in
    let k : (refusal ≢ Mem → AreRefusedAs c.args.bytes.now refusal) = λ other. unread (c.in_err-file.ensures other) in
    search rules

pub returns : goal.returns
returns c = jobs_from c.args.bytes.now c.in_ok-file.file c.jobs_in.result c.in_ok-file.ensures c.jobs_in.ensures.given c.jobs_in.ensures.digest
