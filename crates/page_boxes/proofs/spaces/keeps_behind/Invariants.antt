use Rattle.std.proofs.Common.{◌≡◌, drop}
use Rattle.page_boxes.specs.steps.Spaces.{keeps_behind}
use Rattle.page_boxes.proofs.spaces.keeps_behind.Given as goal

abbrev pub invariant-loop-letter : goal.invariant-loop-letter
invariant-loop-letter l = keeps_behind l.keeps (drop l.letter-index l.letters) ≡ keeps_behind l.before l.letters
