use Rattle.std.proofs.Common.{◌∙◌, ap, length}
use Rattle.page_media.specs.Parts.{sign_of}
use Rattle.page_build.specs.Jobs.{chosen_by}
use Rattle.page_build.proofs.ReadSheets.{same_count}
use Rattle.page_build.proofs.parts.laid_part.Goals as goal

pub laid_under-requires-clause-sheets : goal.laid_under-requires-clause-sheets
laid_under-requires-clause-sheets c =
    ap length (c.as_slice-2.ensures ∙ (c.in_ok-sheets.ensures ∙ ap (λ sheets. chosen_by c.args.file.now.features c.args.signs.now sheets) c.as_slice.ensures.value))
    ∙ same_count (sign_of c.args.file.now.features c.args.signs.now) c.requires.read
