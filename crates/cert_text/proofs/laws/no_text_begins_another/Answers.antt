use Rattle.std.proofs.Common.{◌≡◌, ◌++◌}
use Rattle.cert_text.proofs.Language.{agree_begins}
use Rattle.cert_text.proofs.Certificates.{good_cert}
use Rattle.cert_text.proofs.laws.no_text_begins_another.Goals as goal

pub returns : goal.returns
returns c = λ first second text more h k. (agree_begins (first ≡ second) text more (good_cert.plain first second text (text ++ more) h k)).0
