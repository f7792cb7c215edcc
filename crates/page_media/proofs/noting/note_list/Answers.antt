use Rattle.std.proofs.Common.{◌≡◌, ◌<◌, List, length, rules, subst, arith}
use Rattle.std.specs.List.{flat_map}
use Rattle.viz_base.specs.declared.sheets.Feature.{Feature}
use Rattle.page_media.specs.Features.{asked_by_entry, noted_all}
use Rattle.page_media.specs.declared.noting.Full.TheVariants as of_full
use Rattle.page_media.proofs.Walks.{past-entry}
use Rattle.page_media.proofs.noting.note_list.Goals as goal

pub returns-in_err-note_entry : goal.returns-in_err-note_entry
returns-in_err-note_entry c =
    let k : (c.in_err-note_entry.field-0.0 ≡ of_full.Past → 16 < length (noted_all c.args.known.now (flat_map asked_by_entry c.args.entries.now))) = λ past.
    subst (λ (all : List Feature). 16 < length all) c.loop-entry.invariant.rest
    (past-entry c.loop-entry.known c.args.entries.now c.entry-item.result c.loop-entry.entry-index (omega arith) c.entry-item.is (c.in_err-note_entry.ensures past)) in
    search rules
