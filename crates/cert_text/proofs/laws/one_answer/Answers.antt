use Rattle.cert_text.proofs.ReadingLaws.{one_next}
use Rattle.cert_text.proofs.laws.one_answer.Goals as goal

pub returns : goal.returns
returns c = one_next
