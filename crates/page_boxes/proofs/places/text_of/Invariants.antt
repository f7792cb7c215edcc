use Rattle.std.proofs.Common.{◌≡◌, ◌++◌, drop}
use Rattle.std.specs.Prelude.{encode_utf8_all}
use Rattle.page_boxes.proofs.places.text_of.Given as goal

abbrev pub invariant-loop-letter : goal.invariant-loop-letter
invariant-loop-letter l = l.text ++ encode_utf8_all (drop l.letter-index l.letters) ≡ encode_utf8_all l.letters
