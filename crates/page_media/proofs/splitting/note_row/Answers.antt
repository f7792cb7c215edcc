use Rattle.std.proofs.Common.{◌+◌, ◌-◌, ◌∙◌, Bool, List, map, ap, arith}
use Rattle.std.specs.List.{fold, range_with_len}
use Rattle.page_media.specs.Distinct.{noted}
use Rattle.page_media.specs.Parts.{same_signs, signs_at}
use Rattle.page_media.proofs.Walks.{row-next}
use Rattle.page_media.proofs.splitting.note_row.Goals as goal

pub loop-s-preserved : goal.loop-s-preserved
loop-s-preserved c =
    let s = c.loop-s.s in
    let end = c.from-s-end.result + 1 in
    let signs = signs_at c.args.features.now c.args.w in
    ap (λ (known : List (List Bool)). fold (noted same_signs) known (map signs (range_with_len (s + 1) (end - (s + 1))))) c.in_ok-note.ensures
    ∙ (row-next c.loop-s.known signs s end (omega arith) ∙ c.loop-s.invariant)
