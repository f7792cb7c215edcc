use Rattle.std.proofs.Common.{◌≡◌, take}
use Rattle.std.specs.Prelude.{map}
use Rattle.page_json.specs.Fonts.{measures_of}
use Rattle.page_json.specs.Jobs.{advances}
use Rattle.page_json.proofs.limits.advances.Given as goal

abbrev pub invariant-loop-font : goal.invariant-loop-font
invariant-loop-font l = l.total ≡ advances (map measures_of (take l.font-index l.fonts))
