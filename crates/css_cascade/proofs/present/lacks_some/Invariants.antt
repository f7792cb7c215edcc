use Rattle.std.proofs.Common.{◌≡◌, reverse, take}
use Rattle.css_cascade.specs.steps.Present.{lacks_some}
use Rattle.css_cascade.proofs.present.lacks_some.Given as goal

abbrev pub invariant-loop-part : goal.invariant-loop-part
invariant-loop-part l = l.lacks ≡ lacks_some l.present (reverse (take l.part-index l.parts))
