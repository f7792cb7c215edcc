use Rattle.css_select.proofs.Exact.{one_reading, some_reading}
use Rattle.css_select.proofs.Answers.{one_reading_of, some_reading_of}
use Rattle.css_select.proofs.laws.one_reading.Goals as goal

pub returns : goal.returns
returns c = record { exists = some_reading; unique = one_reading; exists_text = some_reading_of; unique_text = one_reading_of }
