use Rattle.std.proofs.Common.{◌≡◌, drop}
use Rattle.page_boxes.specs.steps.Refusing.{first_turned}
use Rattle.page_boxes.proofs.refusals.first_right_to_left.Given as goal

abbrev pub invariant-loop-letter : goal.invariant-loop-letter
invariant-loop-letter l = first_turned (drop l.letter-index l.letters) ≡ first_turned l.letters
