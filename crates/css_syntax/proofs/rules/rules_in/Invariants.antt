use Rattle.std.proofs.Common.{length, ◌-◌, ◌≡◌, ◌++◌, drop}
use Rattle.css_semantics.specs.steps.Sheets.{rules_in}
use Rattle.css_syntax.proofs.rules.rules_in.Given as goal

abbrev pub invariant-loop-at : goal.invariant-loop-at
invariant-loop-at l = l.rules ++ rules_in l.media (drop l.at l.tokens) ≡ rules_in l.media l.tokens

abbrev pub decreases-loop-at : goal.decreases-loop-at
decreases-loop-at l = length l.tokens - l.at
