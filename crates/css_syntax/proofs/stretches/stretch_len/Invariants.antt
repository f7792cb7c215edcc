use Rattle.std.proofs.Common.{◌≡◌, [], ◌+◌, drop}
use Rattle.css_semantics.specs.SheetsReading.{stretch_len}
use Rattle.css_syntax.specs.Classes.{stops}
use Rattle.css_syntax.proofs.stretches.stretch_len.Given as goal

abbrev pub invariant-loop-at : goal.invariant-loop-at
invariant-loop-at l = l.at + stretch_len (stops l.stop) l.marks (drop l.at l.tokens) ≡ stretch_len (stops l.stop) [] l.tokens
