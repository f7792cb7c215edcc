use Rattle.std.proofs.Common.{ap, sym, ◌∙◌}
use Rattle.std.specs.Str.{chars}
use Rattle.css_semantics.specs.Shorthands.{declared}
use Rattle.css_semantics.specs.ValuesParts.{parts}
use Rattle.css_semantics.proofs.PieceLemmas.{pieces_same}
use Rattle.css_semantics.proofs.value_laws.one_answer.Goals as goal

pub returns : goal.returns
returns c = λ name text a b h k.
    h.answers ∙ ap (λ ts. declared name (parts ts)) (pieces_same h.tokens k.tokens 0 (chars text) h.whole k.whole) ∙ sym k.answers
