use Rattle.std.specs.Str.{chars}
use Rattle.css_token.proofs.SequenceLemmas.{pieces_exist}
use Rattle.css_token.proofs.sequence.tokens_exist.Goals as goal

pub returns : goal.returns
returns c = pieces_exist (chars c.args.text.now)
