use Rattle.std.specs.Str.{chars}
use Rattle.css_semantics.proofs.PieceLemmas.{pieces_same}
use Rattle.css_semantics.proofs.laws.tokens_are_unique.Goals as goal

pub returns : goal.returns
returns c = λ first second a b. pieces_same first second 0 (chars c.args.text.now) a b
