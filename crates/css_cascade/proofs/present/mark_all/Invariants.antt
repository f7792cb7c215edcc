use Rattle.std.proofs.Common.{◌≡◌, drop}
use Rattle.css_cascade.specs.steps.Present.{marked}
use Rattle.css_cascade.proofs.present.mark_all.Given as goal

abbrev pub invariant-loop-word : goal.invariant-loop-word
invariant-loop-word l = marked l.present.items (drop l.word-index l.words) ≡ marked l.initial.present.items l.words
