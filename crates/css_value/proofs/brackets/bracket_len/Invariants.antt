use Rattle.std.proofs.Common.{◌≡◌, [], ◌+◌, true, drop}
use Rattle.css_semantics.specs.SheetsReading.{awaited, stretch_len}
use Rattle.css_value.proofs.brackets.bracket_len.Given as goal

abbrev pub invariant-loop-at : goal.invariant-loop-at
invariant-loop-at l = l.at + stretch_len (λ t. true) l.marks (drop l.at l.tokens) ≡ stretch_len (λ t. true) (awaited l.fn.opener []) l.tokens
