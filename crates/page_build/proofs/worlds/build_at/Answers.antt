use Rattle.std.proofs.Common.{◌≢◌, rules}
use Rattle.page_build.specs.declared.faults.JobRefusal.TheVariants.{Mem}
use Rattle.page_build.specs.Jobs.{IsRefusedAt}
use Rattle.page_build.proofs.Stages.{job_from, unread_at}
use Rattle.page_build.proofs.worlds.build_at.Goals as goal

pub returns-in_err-file : goal.returns-in_err-file
returns-in_err-file c =
    let refusal = c.in_err-file.field-0.0 in
    let k : (refusal ≢ Mem → IsRefusedAt c.args.bytes.now c.args.w c.args.s refusal) = λ other. unread_at c.args.w c.args.s (c.in_err-file.ensures other) in
    search rules

pub returns : goal.returns
returns c = job_from c.args.bytes.now c.args.w c.args.s c.in_ok-file.file c.job_at.result c.in_ok-file.ensures c.job_at.ensures.given c.job_at.ensures.digest
