use Rattle.cert_text.proofs.ReadingLaws.{given_whole}
use Rattle.cert_text.proofs.laws.whole_texts_are_given_whole.Goals as goal

pub returns : goal.returns
returns c = given_whole
