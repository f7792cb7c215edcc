use Rattle.std.proofs.Common.{◌≡◌, length}
use denote.Text.{Utf8}
use denote.Shadow.{shadow}
use Rattle.std.specs.Str.{chars}
use Rattle.css_token.specs.steps.Scan.{longest}
use Rattle.css_token.proofs.scan.longest.Given as goal

abbrev pub invariant-loop-letter : goal.invariant-loop-letter
invariant-loop-letter l =
    shadow (Utf8 l.rest) × shadow (Utf8 l.left) × (longest l.fn.from (chars l.fn.text) (l.fn.best_kind, chars l.fn.best_rest) ≡ longest l.state (chars l.rest) (l.kind, chars l.left))

abbrev pub decreases-loop-letter : goal.decreases-loop-letter
decreases-loop-letter l = length l.rest
