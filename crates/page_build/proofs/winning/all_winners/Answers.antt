use Rattle.std.proofs.Common.{◌≢◌, rules}
use Rattle.page_build.specs.declared.faults.JobRefusal.TheVariants.{Mem}
use Rattle.page_build.specs.Jobs.{IsRefusedPage}
use Rattle.page_build.proofs.winning.all_winners.Goals as goal

pub returns-in_err-own-clause-given : goal.returns-in_err-own-clause-given
returns-in_err-own-clause-given c =
    let refusal = c.in_err-own.field-0.0 in
    let k : (refusal ≢ Mem → IsRefusedPage c.args.page.now.nodes c.args.texts.now c.args.sheets.now refusal) =
    λ other. (let found = c.in_err-own.ensures.given other in IsRefusedPage.own found.1 found.2) in
    search rules

pub returns-in_err-before-clause-given : goal.returns-in_err-before-clause-given
returns-in_err-before-clause-given c =
    let refusal = c.in_err-before.field-0.0 in
    let k : (refusal ≢ Mem → IsRefusedPage c.args.page.now.nodes c.args.texts.now c.args.sheets.now refusal) =
    λ other. (let found = c.in_err-before.ensures.given other in IsRefusedPage.before c.in_ok-own.ensures.given found.1 found.2) in
    search rules

pub returns-in_err-after-clause-given : goal.returns-in_err-after-clause-given
returns-in_err-after-clause-given c =
    let refusal = c.in_err-after.field-0.0 in
    let k : (refusal ≢ Mem → IsRefusedPage c.args.page.now.nodes c.args.texts.now c.args.sheets.now refusal) =
    λ other. (let found = c.in_err-after.ensures.given other in IsRefusedPage.after c.in_ok-own.ensures.given c.in_ok-before.ensures.given found.1 found.2) in
    search rules
