use Rattle.std.proofs.Common.{◌≢◌, rules}
use Rattle.page_json.specs.Jobs.{raw_of}
use Rattle.page_build.specs.declared.faults.JobRefusal.TheVariants.{Mem}
use Rattle.page_build.specs.Jobs.{AreNotBuilt}
use Rattle.page_build.proofs.PartStages.{many_parts}
use Rattle.page_build.proofs.parts.jobs_in.Goals as goal

pub returns-in_err-parts-clause-given : goal.returns-in_err-parts-clause-given
returns-in_err-parts-clause-given c =
    let refusal = c.in_err-parts.field-0.0 in
    let k : (refusal ≢ Mem → AreNotBuilt (raw_of c.args.file.now.raw) refusal) = λ other. many_parts c.args.file.now c.requires refusal (c.in_err-parts.ensures other) in
    search rules
