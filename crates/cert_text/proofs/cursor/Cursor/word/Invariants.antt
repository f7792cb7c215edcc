use Rattle.std.proofs.Common.{◌≡◌, drop}
use Rattle.cert_text.specs.steps.Read.{after_word}
use Rattle.cert_text.proofs.cursor.Cursor.word.Given as goal

abbrev pub invariant-loop-wanted : goal.invariant-loop-wanted
invariant-loop-wanted l =
    after_word l.word l.initial.self.rest.now ≡ after_word (drop l.wanted-index l.word) l.self.rest.now
