use Rattle.std.proofs.Common.{◌≡◌, drop}
use Rattle.std.specs.List.{list_any}
use Rattle.page_media.specs.Features.{same_feature}
use Rattle.page_media.proofs.noting.is_known.Given as goal

abbrev pub invariant-loop-other : goal.invariant-loop-other
invariant-loop-other l = list_any (same_feature l.feature) (drop l.other-index l.known) ≡ list_any (same_feature l.feature) l.known
