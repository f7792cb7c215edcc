use Rattle.std.proofs.Common.{◌≡◌, drop, true}
use Rattle.css_select.specs.steps.Attributes.{found}
use Rattle.css_select.proofs.attributes.found.Given as goal

abbrev pub invariant-loop-at : goal.invariant-loop-at
invariant-loop-at l = found l.start l.word (drop l.at l.text) ≡ found true l.word l.text
