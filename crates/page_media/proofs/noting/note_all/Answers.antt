use Rattle.std.proofs.Common.{◌≡◌, ◌<◌, List, length, rules, subst, arith}
use Rattle.viz_base.specs.declared.sheets.Feature.{Feature}
use Rattle.page_media.specs.Features.{noted_all}
use Rattle.page_media.specs.declared.noting.Full.TheVariants as of_full
use Rattle.page_media.proofs.Walks.{past-feature}
use Rattle.page_media.proofs.noting.note_all.Goals as goal

pub returns-in_err-note : goal.returns-in_err-note
returns-in_err-note c =
    let k : (c.in_err-note.field-0.0 ≡ of_full.Past → 16 < length (noted_all c.args.known.now c.args.features.now)) = λ past.
    subst (λ (all : List Feature). 16 < length all) c.loop-feature.invariant.rest
    (past-feature c.loop-feature.known c.args.features.now _ c.loop-feature.feature-index (omega arith) (c.in_err-note.ensures past)) in
    search rules
