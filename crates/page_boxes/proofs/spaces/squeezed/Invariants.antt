use Rattle.std.proofs.Common.{◌≡◌, ◌++◌, drop}
use Rattle.page_boxes.specs.steps.Spaces.{squeezed}
use Rattle.page_boxes.proofs.spaces.squeezed.Given as goal

abbrev pub invariant-loop-letter : goal.invariant-loop-letter
invariant-loop-letter l = l.kept ++ squeezed l.keeps (drop l.letter-index l.letters) ≡ squeezed l.before l.letters
