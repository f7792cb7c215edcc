use Rattle.std.proofs.Common.{◌≡◌, drop, length}
use Rattle.page_media.specs.Parts.{same_signs, signs_at}
use Rattle.page_media.proofs.splitting.has_signs.Given as goal

abbrev pub invariant-loop-at : goal.invariant-loop-at
invariant-loop-at l = record {
  rest : same_signs (signs_at (drop l.at l.features) l.w l.s) (drop l.at l.signs) ≡ same_signs (signs_at l.features l.w l.s) l.signs;
  even : length l.features ≡ length l.signs;
}
