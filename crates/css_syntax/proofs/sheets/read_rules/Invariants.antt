use Rattle.std.proofs.Common.{length, ◌-◌, ◌≡◌, drop, [], true}
use Rattle.css_semantics.specs.steps.Sheets.{read_on, statements}
use Rattle.css_syntax.proofs.sheets.read_rules.Given as goal

abbrev pub invariant-loop-at : goal.invariant-loop-at
invariant-loop-at l = read_on l.reading.early l.reading.rules.items (statements (drop l.at l.tokens)) ≡ read_on true [] (statements l.tokens)

abbrev pub decreases-loop-at : goal.decreases-loop-at
decreases-loop-at l = length l.tokens - l.at
