use Rattle.std.proofs.Common.{◌≡◌, ◌∙◌, ap, subst}
use Rattle.std.specs.Prelude.{IfOk}
use Rattle.page_media.specs.Parts.{sign_of}
use Rattle.page_media.specs.Queries.{met_sheets}
use Rattle.page_build.proofs.Stages.{chosen_there}
use Rattle.page_build.proofs.worlds.met_at.Goals as goal

pub returns : goal.returns
returns c =
    let file = c.args.file.now in
    let same = ap (met_sheets (sign_of file.features c.in_ok-signs.signs)) c.as_slice.ensures.value
    ∙ chosen_there file.features file.sheets.items c.in_ok-signs.signs c.args.w c.args.s c.features_are_all.ensures c.chosen_are_met.ensures c.requires.asked c.in_ok-signs.ensures in
    subst (λ given. IfOk c.chosen.result (λ sheets. sheets ≡ given)) same c.chosen.ensures
