use Rattle.std.proofs.Common.{◌≡◌, ◌++◌, drop}
use Rattle.page_media.specs.Parts.{signs_at}
use Rattle.page_media.proofs.meeting.signs.Given as goal

abbrev pub invariant-loop-feature : goal.invariant-loop-feature
invariant-loop-feature l = l.signs ++ signs_at (drop l.feature-index l.features) l.world.w l.world.s ≡ signs_at l.features l.world.w l.world.s
