use Rattle.std.proofs.Common.{◌≡◌, length}
use Rattle.std.specs.Str.{chars}
use denote.Shadow.{shadow}
use denote.Text.{Utf8}
use Rattle.css_semantics.specs.ValuesParts.{behind_numeral}
use Rattle.css_token.proofs.amounts.behind_numeral.Given as goal

abbrev pub invariant-loop-letter : goal.invariant-loop-letter
invariant-loop-letter l = shadow (Utf8 l.rest) × (behind_numeral (chars l.rest) ≡ behind_numeral (chars l.fn.text))

abbrev pub decreases-loop-letter : goal.decreases-loop-letter
decreases-loop-letter l = length l.rest
