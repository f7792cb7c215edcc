use Rattle.std.proofs.Common.{◌∙◌}
use Rattle.std.specs.Str.{chars}
use Rattle.std.proofs.lemmas.Str.{encodes-chars}
use Rattle.css_semantics.proofs.PieceLemmas.{pieces_join}
use Rattle.css_semantics.proofs.laws.tokens_join.Goals as goal

pub returns : goal.returns
returns c = λ pieces a. pieces_join pieces 0 (chars c.args.text.now) a ∙ encodes-chars c.args.text.now c.utf8.text
