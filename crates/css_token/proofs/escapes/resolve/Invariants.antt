use Rattle.std.proofs.Common.{◌≡◌, ◌++◌, length}
use denote.Text.{Utf8}
use denote.Shadow.{shadow}
use Rattle.std.specs.Str.{chars}
use Rattle.std.specs.Prelude.{encode_utf8_all}
use Rattle.css_semantics.specs.TokensUnescaped.{resolved}
use Rattle.css_token.specs.steps.Resolve.{IsSmall, extent_of, resolved_in}
use Rattle.css_token.proofs.escapes.resolve.Given as goal

abbrev pub invariant-loop-letter : goal.invariant-loop-letter
invariant-loop-letter l =
    shadow (Utf8 l.rest) × IsSmall l.mode × (l.said ++ encode_utf8_all (resolved_in l.ending l.mode (chars l.rest)) ≡ encode_utf8_all (resolved (extent_of l.ending) (chars l.fn.text)))

abbrev pub decreases-loop-letter : goal.decreases-loop-letter
decreases-loop-letter l = length l.rest
