use Rattle.std.proofs.Common.{◌≢◌, rules}
use Rattle.page_json.specs.Jobs.{raw_job}
use Rattle.page_build.specs.declared.faults.JobRefusal.TheVariants.{Mem}
use Rattle.page_build.specs.Refusals.{of_file}
use Rattle.page_build.specs.Seen.{IsUnread}
use Rattle.page_build.proofs.Stages.{file_from, file_refused}
use Rattle.page_build.proofs.reading.read_file.Goals as goal

pub returns-in_err-raw : goal.returns-in_err-raw
returns-in_err-raw c =
    let said = raw_job c.args.bytes.now in
    let fault = c.in_err-raw.field-0.0 in
    let k : (of_file fault ≢ Mem → IsUnread said (of_file fault)) = file_refused said fault c.in_err-raw.ensures.gives in
    search rules

pub returns : goal.returns
returns c = file_from (raw_job c.args.bytes.now) c.args.bytes.now c.in_ok-raw.raw c.file_of.result c.in_ok-raw.ensures.gives c.file_of.ensures
