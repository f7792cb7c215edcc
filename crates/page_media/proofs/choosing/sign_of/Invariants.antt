use Rattle.std.proofs.Common.{◌≡◌, drop}
use Rattle.page_media.specs.Parts.{sign_of}
use Rattle.page_media.proofs.choosing.sign_of.Given as goal

abbrev pub invariant-loop-at : goal.invariant-loop-at
invariant-loop-at l = sign_of (drop l.at l.features) (drop l.at l.signs) l.feature ≡ sign_of l.features l.signs l.feature
