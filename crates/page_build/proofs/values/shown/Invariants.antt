use Rattle.std.proofs.Common.{◌≡◌, map, take}
use Rattle.page_build.specs.Refusals.{printable}
use Rattle.page_build.proofs.values.shown.Given as goal

abbrev pub invariant-loop-byte : goal.invariant-loop-byte
invariant-loop-byte l = l.text ≡ map printable (take l.byte-index l.front)
