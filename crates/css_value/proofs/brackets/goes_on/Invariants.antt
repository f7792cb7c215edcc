use Rattle.std.proofs.Common.{◌≡◌, [], ◌∷◌, drop}
use Rattle.viz_base.specs.declared.tokens.TokenKind.TheVariants.{RightParen}
use Rattle.css_semantics.specs.SheetsReading.{goes_on}
use Rattle.css_value.proofs.brackets.goes_on.Given as goal

abbrev pub invariant-loop-token : goal.invariant-loop-token
invariant-loop-token l = goes_on l.marks (drop l.token-index l.tokens) ≡ goes_on (RightParen ∷ []) l.tokens
