use Rattle.std.proofs.Common.{◌≡◌, drop}
use Rattle.page_media.specs.Guards.{guarded}
use Rattle.page_media.proofs.guarding.guard.Given as goal

abbrev pub invariant-loop-at : goal.invariant-loop-at
invariant-loop-at l = guarded (drop l.at l.features) (drop l.at l.signs) l.all ≡ guarded l.fn.features l.fn.signs l.fn.formula
