use Rattle.std.proofs.Common.{◌∙◌}
use Rattle.cert_text.proofs.CursorLemmas.{word_ended}
use Rattle.cert_text.proofs.cursor.Cursor.word.Goals as goal

pub returns-in_default-2 : goal.returns-in_default-2
returns-in_default-2 c =
    let none = rw c.in_default.is at c.split_first.ensures.cases in
    c.loop-wanted.invariant ∙ word_ended _ _ _ c.loop-wanted-test.true none
