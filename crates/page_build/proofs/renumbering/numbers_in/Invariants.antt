use Rattle.std.proofs.Common.{take}
use Rattle.page_build.specs.Seen.{AreNumbers}
use Rattle.page_build.proofs.renumbering.numbers_in.Given as goal

abbrev pub invariant-loop-at : goal.invariant-loop-at
invariant-loop-at l = AreNumbers (take l.at l.from) l.numbers.items
