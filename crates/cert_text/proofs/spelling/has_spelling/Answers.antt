use Rattle.cert_text.proofs.HavingText.{spelled_where}
use Rattle.cert_text.proofs.spelling.has_spelling.Goals as goal

pub returns : goal.returns
returns c = spelled_where c.args.cert.now c.is_spelled.result c.is_spelled.ensures
