use Rattle.std.proofs.Common.{◌≡◌, take}
use Rattle.std.specs.List.{AllByRecursion}
use Rattle.viz_base.specs.declared.jobs.Job.{Job}
use Rattle.page_json.specs.Jobs.{raw_of}
use Rattle.page_build.specs.Jobs.{ArePartsOf}
use Rattle.page_build.proofs.parts.all_parts.Given as goal

abbrev pub invariant-loop-signs : goal.invariant-loop-signs
invariant-loop-signs l = record {
  are : ArePartsOf (raw_of l.file.raw) l.file.sheets.items l.file.features (take l.signs-index l.parts) l.jobs;
  digests : AllByRecursion (λ (job : Job). job.digest ≡ l.file.digest) l.jobs;
}
