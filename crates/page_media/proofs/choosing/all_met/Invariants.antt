use Rattle.std.proofs.Common.{◌≡◌, drop}
use Rattle.std.specs.List.{list_all}
use Rattle.page_media.specs.Parts.{sign_of}
use Rattle.page_media.proofs.choosing.all_met.Given as goal

abbrev pub invariant-loop-feature : goal.invariant-loop-feature
invariant-loop-feature l =
    list_all (sign_of l.features l.signs) (drop l.feature-index l.asked) ≡ list_all (sign_of l.features l.signs) l.asked
