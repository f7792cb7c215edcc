use Rattle.std.proofs.Common.{length, ◌-◌, ◌≡◌, ◌++◌, drop}
use Rattle.css_semantics.specs.steps.Sheets.{declarations}
use Rattle.css_syntax.proofs.declarations.declarations.Given as goal

abbrev pub invariant-loop-at : goal.invariant-loop-at
invariant-loop-at l = l.decls ++ declarations (drop l.at l.tokens) ≡ declarations l.tokens

abbrev pub decreases-loop-at : goal.decreases-loop-at
decreases-loop-at l = length l.tokens - l.at
