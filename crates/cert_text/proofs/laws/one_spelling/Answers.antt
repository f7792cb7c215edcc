use Rattle.std.proofs.Common.{sym, ◌∙◌}
use Rattle.cert_text.proofs.laws.one_spelling.Goals as goal

pub returns : goal.returns
returns c = λ cert first second h k. h.1 ∙ sym k.1
