use Rattle.std.proofs.Common.{take}
use Rattle.page_build.specs.Sheets.{AreRead}
use Rattle.page_build.proofs.sheets.author_sheets.Given as goal

abbrev pub invariant-loop-number : goal.invariant-loop-number
invariant-loop-number l = AreRead (take l.number l.css) l.sheets.items
