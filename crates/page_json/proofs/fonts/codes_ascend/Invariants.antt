use Rattle.std.proofs.Common.{◌≡◌, drop}
use Rattle.page_json.specs.Fonts.{codes_ascend}
use Rattle.page_json.proofs.fonts.codes_ascend.Given as goal

abbrev pub invariant-loop-letter : goal.invariant-loop-letter
invariant-loop-letter l = codes_ascend l.least (drop l.letter-index l.advances) ≡ codes_ascend 0 l.advances
