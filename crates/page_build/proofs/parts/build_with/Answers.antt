use Rattle.std.proofs.Common.{◌≢◌, rules}
use Rattle.page_build.specs.declared.faults.JobRefusal.TheVariants.{Mem}
use Rattle.page_build.specs.Jobs.{AreRefusedWith}
use Rattle.page_build.proofs.PartStages.{jobs_with, unread_with}
use Rattle.page_build.proofs.parts.build_with.Goals as goal

pub returns-in_err-file : goal.returns-in_err-file
returns-in_err-file c =
    let refusal = c.in_err-file.field-0.0 in
    let k : (refusal ≢ Mem → AreRefusedWith c.args.formula.now c.args.bytes.now refusal) = λ other. unread_with (c.in_err-file.ensures other) in
    search rules

pub returns : goal.returns
returns c = jobs_with c.args.formula.now c.args.bytes.now c.in_ok-file.file c.jobs_in.result c.in_ok-file.ensures c.jobs_in.ensures.given c.jobs_in.ensures.digest
