use Rattle.std.proofs.Common.{◌+◌, ◌-◌, ◌∙◌, Bool, List, ap, arith}
use Rattle.std.specs.List.{flat_map, fold, range_with_len}
use Rattle.page_media.specs.Distinct.{noted}
use Rattle.page_media.specs.Parts.{row_of, same_signs}
use Rattle.page_media.proofs.Walks.{rows-next}
use Rattle.page_media.proofs.splitting.all_parts.Goals as goal

pub loop-w-preserved : goal.loop-w-preserved
loop-w-preserved c =
    let w = c.loop-w.w in
    let end = c.from-w-end.result + 1 in
    let row = row_of c.args.features.now c.args.range.now in
    ap (λ (known : List (List Bool)). fold (noted same_signs) known (flat_map row (range_with_len (w + 1) (end - (w + 1))))) c.in_ok-note_row.ensures
    ∙ (rows-next c.loop-w.known row w end (omega arith) ∙ c.loop-w.invariant)
