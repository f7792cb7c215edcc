use Rattle.std.proofs.Common.{◌≢◌, ◌∙◌, ap, length, rules, subst}
use Rattle.page_json.specs.Jobs.{raw_of}
use Rattle.page_media.specs.Queries.{is_met}
use Rattle.vis_read.specs.Texts.{IsFault}
use Rattle.page_build.specs.declared.faults.JobRefusal.TheVariants.{Mem}
use Rattle.page_build.specs.Jobs.{IsNotBuiltAt, IsRefusedTree}
use Rattle.page_build.specs.Seen.{IsLaid}
use Rattle.page_build.proofs.ReadSheets.{same_count}
use Rattle.page_build.proofs.Stages.{tree_there, unspelled, unspelled_at}
use Rattle.page_build.proofs.worlds.job_at.Goals as goal

pub laid_under-requires-clause-sheets : goal.laid_under-requires-clause-sheets
laid_under-requires-clause-sheets c =
    ap length (c.as_slice.ensures ∙ c.in_ok-sheets.ensures) ∙ same_count (is_met c.args.w c.args.s) c.requires.read

pub returns-in_err-laid-clause-given : goal.returns-in_err-laid-clause-given
returns-in_err-laid-clause-given c =
    let raw = raw_of c.args.file.now.raw in
    let refusal = c.in_err-laid.field-0.0 in
    let same = c.as_slice.ensures ∙ c.in_ok-sheets.ensures in
    let k : (refusal ≢ Mem → IsNotBuiltAt raw c.args.w c.args.s refusal) = λ other.
    IsNotBuiltAt.tree c.requires (subst (λ sheets. IsRefusedTree raw sheets refusal) same (c.in_err-laid.ensures other)) in
    search rules

pub returns-in_err-formula-clause-given : goal.returns-in_err-formula-clause-given
returns-in_err-formula-clause-given c =
    let file = c.args.file.now in
    let raw = raw_of file.raw in
    let refusal = c.in_err-formula.field-0.0 in
    let same = c.as_slice.ensures ∙ c.in_ok-sheets.ensures in
    let laid = subst (λ sheets. IsLaid raw sheets c.in_ok-laid.laid) same c.in_ok-laid.ensures in
    let k : (refusal ≢ Mem → IsNotBuiltAt raw c.args.w c.args.s refusal) = λ other.
    (let found = c.in_err-formula.ensures.given other in
    let fault = subst (λ text. IsFault file.raw.page.nodes text found.0) c.as_str.ensures found.1 in
    unspelled_at file c.requires c.args.w c.args.s refusal (tree_there laid) (unspelled file.raw.page.nodes file.raw.formula refusal other (found.0, fault, found.2))) in
    search rules
