use Rattle.std.proofs.Common.{◌≡◌, drop}
use Rattle.std.specs.List.{list_any}
use Rattle.page_media.specs.Parts.{same_signs, signs_at}
use Rattle.page_media.proofs.splitting.is_known.Given as goal

abbrev pub invariant-loop-signs : goal.invariant-loop-signs
invariant-loop-signs l =
    list_any (same_signs (signs_at l.features l.w l.s)) (drop l.signs-index l.known) ≡ list_any (same_signs (signs_at l.features l.w l.s)) l.known
