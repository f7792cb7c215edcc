use Rattle.std.proofs.Common.{◌≡◌, length, take}
use Rattle.std.specs.Str.{chars}
use Rattle.page_boxes.proofs.letters.letters_of.Given as goal

abbrev pub invariant-loop-letter : goal.invariant-loop-letter
invariant-loop-letter l = l.letters.items ≡ take (length l.yielded) (chars l.text)
