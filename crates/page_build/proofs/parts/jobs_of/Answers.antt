use Rattle.std.proofs.Common.{◌≢◌, rules, subst}
use Rattle.page_json.specs.Jobs.{raw_of}
use Rattle.vis_read.specs.Texts.{IsFault, IsFormulaText}
use Rattle.page_build.specs.declared.faults.JobRefusal.TheVariants.{Mem}
use Rattle.page_build.specs.Jobs.{AreNotBuilt}
use Rattle.page_build.proofs.PartStages.{built_parts, part_refused, unspelled_parts}
use Rattle.page_build.proofs.Stages.{unspelled}
use Rattle.page_build.proofs.parts.jobs_of.Goals as goal

pub returns-in_err-lay_parts-in-Err-clause-given : goal.returns-in_err-lay_parts-in-Err-clause-given
returns-in_err-lay_parts-in-Err-clause-given c =
    let file = c.args.file.now in
    let refusal = c.in_err-lay_parts-in-Err.field-0.0 in
    let k : (refusal ≢ Mem → AreNotBuilt (raw_of file.raw) refusal) = λ other.
    part_refused file c.requires.asked c.args.parts.now c.requires.few refusal (c.in_err-lay_parts-in-Err.ensures other) in
    search rules

pub returns-in-Ok-clause-given : goal.returns-in-Ok-clause-given
returns-in-Ok-clause-given c =
    let file = c.args.file.now in
    let spelled = subst (λ text. IsFormulaText file.raw.page.nodes text c.in-Ok.formula) c.as_str.ensures c.in-Ok.ensures.given in
    built_parts file c.requires.asked c.args.parts.now c.requires.few c.in-Ok.formula c.all_parts.result spelled c.all_parts.ensures.given

pub returns-in_ok-lay_parts-in-Err-clause-given : goal.returns-in_ok-lay_parts-in-Err-clause-given
returns-in_ok-lay_parts-in-Err-clause-given c = λ other.
    (let file = c.args.file.now in
    let found = c.in-Err.ensures.given other in
    let fault = subst (λ text. IsFault file.raw.page.nodes text found.0) c.as_str.ensures found.1 in
    unspelled_parts file c.requires.asked c.args.parts.now c.requires.few c.in-Err.refusal c.in_ok-lay_parts-in-Err.ensures
    (unspelled file.raw.page.nodes file.raw.formula c.in-Err.refusal other (found.0, fault, found.2)))
