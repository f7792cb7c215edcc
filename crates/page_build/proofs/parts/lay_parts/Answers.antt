use Rattle.std.proofs.Common.{◌≢◌, rules}
use Rattle.page_json.specs.Jobs.{raw_of}
use Rattle.page_build.specs.declared.faults.JobRefusal.TheVariants.{Mem}
use Rattle.page_build.specs.Jobs.{IsFirstPartRefused}
use Rattle.page_build.proofs.PartStages.{first_part}
use Rattle.page_build.proofs.parts.lay_parts.Goals as goal

pub returns-in_err-laid_part : goal.returns-in_err-laid_part
returns-in_err-laid_part c =
    let file = c.args.file.now in
    let refusal = c.in_err-laid_part.field-0.0 in
    let k : (refusal ≢ Mem → IsFirstPartRefused (raw_of file.raw) file.sheets.items file.features c.args.parts.now refusal) = λ other.
    first_part (raw_of file.raw) file.sheets.items file.features c.args.parts.now c.loop-signs.signs-index c.signs-item.result refusal c.loop-signs-test.true c.signs-item.is
    c.loop-signs.invariant (c.in_err-laid_part.ensures other) in
    search rules
