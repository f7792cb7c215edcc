use Rattle.std.proofs.Common.{◌≡◌, ◌≢◌, ◌+◌, ◌<◌, [], length, take, Ok, Err, rules, sym, subst, arith}
use Rattle.css_semantics.specs.SheetsGrammar.{IsSheetOf}
use Rattle.page_build.specs.declared.faults.JobRefusal.TheVariants.{Mem}
use Rattle.page_build.specs.Refusals.{IsSheetRefusal, of_sheet}
use Rattle.page_build.specs.Sheets.{AreRead}
use Rattle.page_build.proofs.ReadSheets.{read_more, first_refused}
use Rattle.page_build.proofs.sheets.author_sheets.Goals as goal

pub loop-number-init : goal.loop-number-init
loop-number-init c = subst (AreRead []) (sym c.new-sheets.ensures.items) AreRead.nothing

pub returns-in_err-author_sheet : goal.returns-in_err-author_sheet
returns-in_err-author_sheet c =
    let l : c.loop-number.number < length c.args.css.now = omega arith in
    let k : (c.in_err-author_sheet.field-0.0 ≢ Mem → IsSheetRefusal c.args.css.now c.in_err-author_sheet.field-0.0) = λ other.
    (let found = c.in_err-author_sheet.ensures other in
    let is : IsSheetOf c.index-css-number.result (Err found.0) = subst (λ t. IsSheetOf t (Err found.0)) c.as_str.ensures found.1 in (
      c.loop-number.number,
      found.0,
      first_refused c.args.css.now c.loop-number.number c.loop-number.sheets.items c.index-css-number.result found.0 l c.index-css-number.is c.loop-number.invariant is,
      subst (λ n. c.in_err-author_sheet.field-0.0 ≡ of_sheet n found.0) c.in_ok-place.ensures.is found.2,
    )) in
    search rules

pub loop-number-preserved : goal.loop-number-preserved
loop-number-preserved c =
    let l : c.loop-number.number < length c.args.css.now = omega arith in
    let is : IsSheetOf c.index-css-number.result (Ok c.in_ok-author_sheet.field-0.rules) = subst (λ t. IsSheetOf t (Ok c.in_ok-author_sheet.field-0.rules)) c.as_str.ensures c.in_ok-author_sheet.ensures in
    subst (AreRead (take (c.loop-number.number + 1) c.args.css.now)) (sym c.in_ok-push.ensures.items)
    (read_more c.args.css.now c.loop-number.number c.loop-number.sheets.items c.index-css-number.result c.in_ok-author_sheet.field-0 l c.index-css-number.is c.loop-number.invariant is)
