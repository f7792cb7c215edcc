use Rattle.std.proofs.Common.{◌≡◌, ◌-◌, map}
use Rattle.std.specs.List.{fold, range_with_len}
use Rattle.page_media.specs.Distinct.{noted}
use Rattle.page_media.specs.Parts.{row_of, same_signs, signs_at}
use Rattle.page_media.proofs.splitting.note_row.Given as goal

abbrev pub invariant-loop-s : goal.invariant-loop-s
invariant-loop-s l =
    fold (noted same_signs) l.known (map (signs_at l.features l.w) (range_with_len l.s (l.s-end - l.s))) ≡ fold (noted same_signs) l.fn.known (row_of l.features l.range l.w)
