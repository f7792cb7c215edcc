use Rattle.std.proofs.Common.{◌∙◌, ap}
use Rattle.page_media.specs.Guards.{guarded}
use Rattle.page_build.specs.Renumbering.{number_in, renumbered}
use Rattle.page_build.proofs.PartStages.{part_from}
use Rattle.page_build.proofs.parts.part.Goals as goal

pub returns-clause-given : goal.returns-clause-given
returns-clause-given c =
    let file = c.args.file.now in
    let is = c.in_ok-formula.ensures.given ∙ ap (λ from. guarded file.features c.args.signs.now (renumbered (number_in from) c.args.formula.now)) c.as_slice.ensures in
    part_from file c.requires.asked c.args.signs.now c.in_ok-laid.laid c.args.formula.now c.in_ok-formula.formula c.job_with.result
    c.in_ok-laid.ensures c.requires.spelled is c.job_with.ensures
