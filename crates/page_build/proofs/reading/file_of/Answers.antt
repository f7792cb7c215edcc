use Rattle.std.proofs.Common.{◌≢◌, rules, sym, subst}
use Rattle.page_build.specs.declared.faults.JobRefusal.TheVariants.{Mem}
use Rattle.page_build.specs.Jobs.{IsRefusedCss}
use Rattle.page_build.specs.Refusals.{IsSheetRefusal}
use Rattle.page_build.specs.Sheets.{AreSheets}
use Rattle.page_build.proofs.Stages.{asking_refused, sheet_refused}
use Rattle.page_build.proofs.reading.file_of.Goals as goal

pub returns-in_err-sheets : goal.returns-in_err-sheets
returns-in_err-sheets c =
    let refusal = c.in_err-sheets.field-0.0 in
    let k : (refusal ≢ Mem → IsRefusedCss c.args.raw.css refusal) = λ other.
    sheet_refused c.args.raw.css refusal (subst (λ css. IsSheetRefusal css refusal) c.as_slice.ensures (c.in_err-sheets.ensures other)) in
    search rules

pub returns-in_err-features : goal.returns-in_err-features
returns-in_err-features c =
    let refusal = c.in_err-features.field-0.0 in
    let sheets : AreSheets c.args.raw.css c.as_slice-2.result.now =
    subst (AreSheets c.args.raw.css) (sym c.as_slice-2.ensures.value) (subst (λ css. AreSheets css c.in_ok-sheets.sheets.items) c.as_slice.ensures c.in_ok-sheets.ensures) in
    let k : (refusal ≢ Mem → IsRefusedCss c.args.raw.css refusal) = λ other.
    asking_refused c.args.raw.css c.as_slice-2.result.now refusal sheets (c.in_err-features.ensures other) in
    search rules
