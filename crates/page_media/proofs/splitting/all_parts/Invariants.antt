use Rattle.std.proofs.Common.{◌≡◌, ◌-◌}
use Rattle.std.specs.List.{flat_map, fold, range_with_len}
use Rattle.page_media.specs.Distinct.{noted}
use Rattle.page_media.specs.Parts.{parts_of, row_of, same_signs}
use Rattle.page_media.proofs.splitting.all_parts.Given as goal

abbrev pub invariant-loop-w : goal.invariant-loop-w
invariant-loop-w l =
    fold (noted same_signs) l.known (flat_map (row_of l.features l.range) (range_with_len l.w (l.w-end - l.w))) ≡ parts_of l.features l.range
